-- Roots computed from the definition: document 01's two, the ends of the range, and what is not a positive number. Assumes nothing.
use Rattle.std.proofs.Common.{◌≡◌, true, false, pos, negsuc, refl}
use lib.Ieee.{nan, inf, fin, binary32, binary64}
use Rattle.bits.specs.Root.{root}

pub record Table : Type 0 where
  -- 2.25 and 2 ^ -148
  pub of-2·25 : root binary32 (fin false 9 (negsuc 1)) ≡ fin false 3 (negsuc 0)
  pub of-2^-148 : root binary32 (fin false 1 (negsuc 147)) ≡ fin false 1 (negsuc 73)
  -- 2, at an even and at an odd exponent: the root of the smallest value is that of 2 with another exponent
  pub of-2 : root binary32 (fin false 1 (pos 1)) ≡ fin false 11863283 (negsuc 22)
  pub of-smallest : root binary32 (fin false 1 (negsuc 148)) ≡ fin false 11863283 (negsuc 97)
  -- the largest value, whose root lies just below a half-way point
  pub of-largest : root binary32 (fin false 16777215 (pos 104)) ≡ fin false 16777215 (pos 40)
  pub of-2-wide : root binary64 (fin false 1 (pos 1)) ≡ fin false 6369051672525773 (negsuc 51)
  -- zeros keep their sign
  pub of_zero : root binary32 (fin false 0 (pos 0)) ≡ fin false 0 (pos 0)
  pub of-minus-zero : root binary32 (fin true 0 (pos 0)) ≡ fin true 0 (pos 0)
  pub of-minus-one : root binary64 (fin true 1 (pos 0)) ≡ nan
  pub of-infinity : root binary32 (inf false) ≡ inf false
  pub of-minus-infinity : root binary32 (inf true) ≡ nan
  pub of_nan : root binary64 nan ≡ nan

pub table : Table
unfolding root
table = record {
  of-2·25 = refl;
  of-2^-148 = refl;
  of-2 = refl;
  of-smallest = refl;
  of-largest = refl;
  of-2-wide = refl;
  of_zero = refl;
  of-minus-zero = refl;
  of-minus-one = refl;
  of-infinity = refl;
  of-minus-infinity = refl;
  of_nan = refl;
}
