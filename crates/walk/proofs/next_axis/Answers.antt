-- `next_axis`: one more, and 0 again after 2. By hand, so that of a wrong body the check shows what differs.
use Rattle.tree.proofs.Axis.{axis-up, axis-back}
use Rattle.walk.proofs.next_axis.Goals as goal

pub returns-then-axis-lt2 : goal.returns-then-axis-lt2
returns-then-axis-lt2 c = axis-up _ c.if-axis-lt2.true

pub returns-else-axis-lt2 : goal.returns-else-axis-lt2
returns-else-axis-lt2 c = axis-back _ c.if-axis-lt2.false
