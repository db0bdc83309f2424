-- `next_up`: what std's promises, which is our `next_up`. By hand, so that of a wrong body the check shows what differs.
use Rattle.std.proofs.Common.{◌∙◌}
use Rattle.bits.proofs.Std.{next_up_is}
use Rattle.bits.proofs.next_up.Goals as goal

pub returns : goal.returns
returns c = c.next_up.ensures ∙ next_up_is c.args.x c.well_formed.0.1
