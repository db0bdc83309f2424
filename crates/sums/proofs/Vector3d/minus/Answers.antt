-- `Vector3d::minus` is the definition, coordinate by coordinate. By hand, so that of a wrong body the check shows what differs.
use Rattle.std.proofs.Common.{refl}
use Rattle.sums.proofs.Vector3d.minus.Goals as goal

pub returns : goal.returns
returns c = refl
