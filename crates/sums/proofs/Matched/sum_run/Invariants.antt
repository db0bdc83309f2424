use Rattle.tree.specs.Slots.{slots}
use Rattle.sums.proofs.Runs.{Running}
use Rattle.sums.proofs.Matched.sum_run.Given as goal

abbrev pub invariant-loop-i : goal.invariant-loop-i
invariant-loop-i l = Running l.self.target (slots l.self.source l.self.matches.now) l.at l.len l.stats l.i
