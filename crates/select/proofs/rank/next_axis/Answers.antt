-- `next_axis` is the next axis.
use Rattle.tree.proofs.Axis.{axis-up, axis-back}
use borrow.Author.Rules.{rules}
use Rattle.select.proofs.rank.next_axis.Goals as goal

pub returns-then-axis-lt2 : goal.returns-then-axis-lt2
returns-then-axis-lt2 c = (axis-up c.args.axis c.if-axis-lt2.true, search rules)

pub returns-else-axis-lt2 : goal.returns-else-axis-lt2
returns-else-axis-lt2 c = (axis-back c.args.axis c.if-axis-lt2.false, search rules)
