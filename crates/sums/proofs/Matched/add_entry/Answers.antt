-- `Matched::add_entry`: a match entry other than no match is below the target count.
use Rattle.tree.proofs.Outside.{entry-below}
use Rattle.sums.proofs.Matched.add_entry.Goals as goal

pub point-requires-2 : goal.point-requires-2
point-requires-2 c = entry-below _ _ _ c.requires.0 c.args.self.now.accepted.inside c.if-m.false
