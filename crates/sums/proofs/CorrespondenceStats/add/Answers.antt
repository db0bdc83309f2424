-- `CorrespondenceStats::add` is the definition, call by call. By hand, so that of a wrong body the check shows what differs.
use Rattle.std.proofs.Common.{refl, ◌∙◌}
use Rattle.sums.specs.Vector.{times}
use Rattle.sums.specs.Stats.{add_pair}
use Rattle.sums.proofs.CorrespondenceStats.add.Goals as goal

pub returns : goal.returns
unfolding add_pair
returns c =
    rw (
      c.norm_squared.ensures,
      c.plus-5.ensures,
      c.times-3.ensures ∙ refl {a = times c.from-p.result.z c.from-q.result},
      c.plus-4.ensures,
      c.times-2.ensures ∙ refl {a = times c.from-p.result.y c.from-q.result},
      c.plus-3.ensures,
      c.times.ensures ∙ refl {a = times c.from-p.result.x c.from-q.result},
      c.plus-2.ensures,
      c.plus.ensures,
      c.minus-e.ensures,
      c.from-q.ensures,
      c.from-p.ensures,
    )
    refl
