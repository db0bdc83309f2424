-- `CloudScale::near` is the definition; its literal is 100.
use lib.Ieee.{of_bits}
use Rattle.frame.specs.Frame.{near}
use Rattle.frame.proofs.CloudScale.near.Goals as goal

pub returns : goal.returns
unfolding near of_bits
returns c = rw c.sqrt_f32-norm.ensures
