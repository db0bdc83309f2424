use lib.Ieee.{of_bits}
use Rattle.frame.specs.Frame.{at_least_nought}
use Rattle.frame.proofs.at_least_zero.Goals as goal

-- `at_least_zero`: the two cases of the definition.
pub returns-then-v : goal.returns-then-v
unfolding at_least_nought of_bits
returns-then-v c = rw c.if-v.true

pub returns-else-v : goal.returns-else-v
unfolding at_least_nought of_bits
returns-else-v c = rw c.if-v.false
