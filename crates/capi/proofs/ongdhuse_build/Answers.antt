-- `ongdhuse_build`: the number of slots fits 32 bits.
use native.Mathlib.Omega.{arith}
use mathlib.Core.Path.{sym, ap, ◌∙◌}
use Rattle.tree.specs.Refusal.{outcome_of}
use Rattle.capi.proofs.Counts.{slots-few}
use Rattle.capi.proofs.ongdhuse_build.Goals as goal

pub overflow_cast-slots : goal.overflow_cast-slots
overflow_cast-slots c = let a = c.args in omega (arith, slots-few a.cloud.now a.coords.now a.indices.now c.in-Ok.m (sym (ap outcome_of c.in-Ok.is) ∙ c.build.ensures.answer))
