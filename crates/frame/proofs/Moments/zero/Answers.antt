-- `Moments::zero`: the literals are 0 and +0.
use lib.Ieee.{of_bits}
use Rattle.frame.proofs.Moments.zero.Goals as goal

pub returns : goal.returns
unfolding of_bits
returns c = rw c.zero-v.ensures
