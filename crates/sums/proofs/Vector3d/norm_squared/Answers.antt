-- `Vector3d::norm_squared` is the definition, operation by operation. By hand, so that of a wrong body the check shows what differs.
use Rattle.std.proofs.Common.{refl}
use Rattle.sums.proofs.Vector3d.norm_squared.Goals as goal

pub returns : goal.returns
returns c = refl
