-- `ongdhuse_correspondence_pairs`: the number of pairs fits 32 bits.
use native.Mathlib.Omega.{arith}
use mathlib.Core.Path.{sym, ap, ◌∙◌}
use Rattle.tree.specs.Refusal.{outcome_of}
use Rattle.capi.proofs.Counts.{pairs-few}
use Rattle.capi.proofs.ongdhuse_correspondence_pairs.Goals as goal

pub overflow_cast-count : goal.overflow_cast-count
overflow_cast-count c = let a = c.args in omega (arith, pairs-few a.matches.now a.sources.now a.targets.now c.in-Ok.n (sym (ap outcome_of c.in-Ok.is) ∙ c.correspondence_pairs.ensures.returns))
