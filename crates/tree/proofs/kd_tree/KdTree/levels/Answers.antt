use lib.Count.{leading_le}
use Rattle.tree.proofs.Levels.{levels-is}
use Rattle.tree.proofs.kd_tree.KdTree.levels.Goals as goal

-- `KdTree::levels`: 32 less the leading zeros is the length in binary.
pub overflow_sub-result : goal.overflow_sub-result
overflow_sub-result c = leading_le 32 c.args.m

pub returns : goal.returns
returns c = levels-is c.args.m c.ranges.m.fits
