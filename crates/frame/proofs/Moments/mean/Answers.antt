-- `Moments::mean` is the definition, call by call.
use Rattle.frame.specs.Moments.{mean}
use Rattle.frame.proofs.Moments.mean.Goals as goal

pub returns : goal.returns
unfolding mean
returns c = rw (c.over.ensures, c.divisor.ensures)
