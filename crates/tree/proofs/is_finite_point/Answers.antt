-- `is_finite_point`: three tests, the next only where the one before held.
use Rattle.tree.specs.Cloud.{finite_point}
use Rattle.tree.proofs.is_finite_point.Goals as goal
use Rattle.tree.proofs.is_finite_point.Goals.{then-is_finite, else-is_finite}

pub returns-then-is_finite-2 : goal.returns-then-is_finite-2
unfolding finite_point
returns-then-is_finite-2 c = let p = c.args.p in elim c.if-is_finite.branch [ then-is_finite w ↦ cc | else-is_finite w ↦ cc ]

pub returns-else-is_finite-2 : goal.returns-else-is_finite-2
unfolding finite_point
returns-else-is_finite-2 c = let p = c.args.p in elim c.if-is_finite.branch [ then-is_finite w ↦ cc | else-is_finite w ↦ cc ]
