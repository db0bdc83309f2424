use Rattle.select.specs.Order.{slot_of}
use Rattle.build.proofs.Descending.{Descending}
use Rattle.build.proofs.check.reached.Given as goal

abbrev pub invariant-loop-count : goal.invariant-loop-count
invariant-loop-count l = Descending (slot_of l.cloud l.i) l.tree.coords l.tree.indices l.start l.count l.axis

abbrev pub decreases-loop-count : goal.decreases-loop-count
decreases-loop-count l = l.count
