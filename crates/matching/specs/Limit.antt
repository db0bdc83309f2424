-- Document 01, "Limit to bound". Definitions only.
use Rattle.std.specs.Prelude.{cond, Float, Option, None, Some}
use Rattle.std.specs.Float.Ieee.{lt, le}
use Rattle.bits.specs.Constants.{nought, infinite}
use Rattle.bits.specs.NextUp.{next_up}
use Rattle.space.specs.Distance.{square}

-- "d < 0 gives 0. d >= 0 (also -0) gives the next f32 above d·d, infinity staying infinity. NaN or no limit gives infinity."
unfoldable pub bound_of : Option Float → Float
unfolding lt le next_up
bound_of None = infinite
bound_of (Some d) = cond (lt d nought) nought (cond (le nought d) (next_up (square d)) infinite)
