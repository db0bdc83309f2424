-- `Moments::divisor`: every u32 is an f64.
use Rattle.frame.specs.Moments.{divisor}
use Rattle.frame.proofs.Moments.divisor.Goals as goal

pub returns : goal.returns
unfolding divisor
returns c = rw c.max.ensures
