-- Document 01, "The tree": "Order on an axis: `total_cmp` of that coordinate (so -0 before +0)". Definitions only.
use Rattle.std.specs.Prelude.{ℕ, ◌+◌, ◌-◌, cond, nat_lt, Float}
use Rattle.std.specs.Float.{binary32}
use Rattle.std.specs.Float.Ieee.{to_bits}

-- A bit pattern turned so that it grows with the value: one with the sign set counts down, and lies below all that have it clear.
abbrev pub turned : ℕ → ℕ
turned b = cond (nat_lt b 2147483648) (2147483648 + b) (4294967295 - b)

-- `total_cmp` as a number: of two values the one that comes first has the lower key. Every NaN counts as the one that `to_bits` writes, after infinity.
unfoldable pub key : Float → ℕ
unfolding to_bits
key x = turned (to_bits binary32 x)
