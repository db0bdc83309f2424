-- `rank_at` is the rank of a slot.
use Rattle.select.proofs.Order.{rank-at}
use borrow.Author.Rules.{rules}
use Rattle.select.proofs.rank.rank_at.Goals as goal

pub returns : goal.returns
returns c = rank-at c.args.numbers.now c.args.axis c.args.at c.args.index c.key.result (search rules) c.key.ensures
