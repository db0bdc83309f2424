-- A value above zero as a whole number of squares of its format's smallest value, of which the root is taken. Definitions only.
use Rattle.std.specs.Prelude.{ℕ, ◌+◌, ◌*◌, ◌^◌, ◌<◌, ◌≤◌, false, from_bits}
use Rattle.std.specs.Float.{Format}
use Rattle.std.specs.Float.Ieee.{prec, emax, low}
use Rattle.std.specs.Float.Ieee.Exact.{HasValue}

-- The float of the bits b is digits * 2 ^ exponent such squares.
pub record IsScaled (f : Format) (b digits exponent : ℕ) : Type 0 where
  pub some : 0 < digits
  pub few : digits < 2 ^ prec f
  pub least : low f ≤ exponent
  pub most : exponent ≤ 2 * low f + emax f
  pub value : HasValue (from_bits f b) false (digits * 2 ^ exponent) (2 ^ (low f + low f))
