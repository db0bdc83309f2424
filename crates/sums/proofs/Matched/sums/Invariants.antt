use Rattle.tree.specs.Slots.{slots}
use Rattle.sums.specs.Sums.{run_length}
use Rattle.sums.proofs.Runs.{Adding}
use Rattle.sums.proofs.Matched.sums.Given as goal

abbrev pub invariant-loop-at : goal.invariant-loop-at
invariant-loop-at l = Adding run_length l.self.target (slots l.self.source l.self.matches.now) l.total l.at
