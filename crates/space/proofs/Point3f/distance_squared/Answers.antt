-- `Point3f::distance_squared` is the definition, operation by operation. By hand, so that of a wrong body the check shows what differs.
use mathlib.Core.Path.{refl}
use Rattle.space.specs.Distance.{distance_squared}
use Rattle.space.proofs.Point3f.distance_squared.Goals as goal

pub returns : goal.returns
unfolding distance_squared
returns c = refl
