-- `ongdhuse_target_point`: where the part begins that `target_point` hands back.
use Rattle.capi.proofs.Counts.{no_part, a-part}
use Rattle.capi.proofs.ongdhuse_target_point.Goals as goal

pub returns-then-part-eq0 : goal.returns-then-part-eq0
returns-then-part-eq0 c = no_part c.args.cloud.now c.args.index c.target_point-part.ensures.holds c.if-part-eq0.true

pub returns : goal.returns
returns c = a-part c.args.cloud.now c.args.index c.target_point-part.ensures.holds c.if-part-eq0.false
