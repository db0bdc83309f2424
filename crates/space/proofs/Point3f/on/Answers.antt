-- `Point3f::on`: an axis that is neither 0 nor 1 is two more than some number. By hand, so that of a wrong body the check shows what differs.
use Rattle.std.proofs.Common.{◌≡◌, ◌-◌, suc, arith}
use Rattle.space.proofs.Point3f.on.Goals as goal

pub returns-in_default : goal.returns-in_default
returns-in_default c =
    let two_more : c.args.axis ≡ suc (suc (c.args.axis - 2)) = omega arith in
    rw two_more
