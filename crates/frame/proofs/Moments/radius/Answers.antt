-- `Moments::radius` is the definition, call by call.
use Rattle.frame.specs.Frame.{radius}
use Rattle.frame.proofs.Moments.radius.Goals as goal

pub returns : goal.returns
unfolding radius
returns c =
    rw (
      c.narrow.ensures,
      c.sqrt_f64.ensures,
      c.at_least_zero.ensures,
      c.norm_squared.ensures,
      c.mean.ensures,
      c.divisor.ensures,
    )
