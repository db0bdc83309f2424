-- `is_finite`: what std's promises, which is our `finite`. By hand, so that of a wrong body the check shows what differs.
use Rattle.std.proofs.Common.{◌∙◌}
use Rattle.bits.proofs.Std.{finite_is}
use Rattle.bits.proofs.is_finite.Goals as goal

pub returns : goal.returns
returns c = c.is_finite.ensures.value ∙ finite_is c.args.x
