-- `CorrespondenceStats::collect`: an entry is outside, once the tests before have passed. By hand, so that of a wrong body the check shows what differs.
use Rattle.std.proofs.Common.{◌≡◌, ◌%◌, true, length, sym, ◌∙◌, eq-eqb, le-ltb}
use Rattle.tree.specs.Refuse.{count, any_entry_outside}
use Rattle.sums.specs.Entries.{sums_in}
use Rattle.sums.proofs.CorrespondenceStats.collect.Goals as goal

pub returns-then-any_entry_outside : goal.returns-then-any_entry_outside
unfolding sums_in
returns-then-any_entry_outside c =
    let a = c.args in
    let outside : any_entry_outside (count a.target.now) a.matches.now ≡ true = sym c.any_entry_outside.ensures ∙ c.if-any_entry_outside.true in
    rw (
      eq-eqb (length a.source.now % 3) 0 c.if-source-ne0.false,
      eq-eqb (length a.target.now % 3) 0 c.if-target-ne0.false,
      eq-eqb (length a.matches.now) (count a.source.now) c.if-matches-source.false,
      ← c.if-matches-source.false,
      le-ltb 1048576 (length a.matches.now) c.if-matches-gt-MAX_POINTS.false,
      le-ltb 1048576 (count a.target.now) c.if-points-gt-MAX_POINTS.false,
      outside,
    )
