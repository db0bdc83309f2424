-- A table over the definitions: the smallest inputs at which a wrong reading of 01 gives another answer. Every row is by computation; values are told by their bits.
-- Roots stand in RootTable.
use Rattle.std.proofs.Common.{◌≡◌, Bool, true, false, ltb, pos, negsuc, refl}
use lib.Ieee.{Float, nan, inf, fin, binary32, to_bits, of_bits, of_fields, add, sum, round, units, odd, size}
use Rattle.bits.specs.Constants.{nought, infinite}
use Rattle.bits.specs.Finite.{finite}
use Rattle.bits.specs.NextUp.{next_up}
use Rattle.bits.specs.Convert.{widen, narrow}
use Rattle.bits.specs.Key.{key}
use Rattle.bits.specs.Root.{whole_root, root_digits}

abbrev #1 : Float
#1 = fin false 1 (pos 0)

abbrev -1 : Float
-1 = fin true 1 (pos 0)

abbrev -0 : Float
-0 = fin true 0 (pos 0)

abbrev largest : Float
largest = fin false 16777215 (pos 104)

-- 2 ^ -149, and the same below zero
abbrev least : Float
least = fin false 1 (negsuc 148)

abbrev -least : Float
-least = fin true 1 (negsuc 148)

abbrev before : Float → Float → Bool
before x y = ltb (key x) (key y)

record Table : Type 0 where
  -- zero and infinity
  constants : (to_bits binary32 nought ≡ 0) × (to_bits binary32 infinite ≡ 0x7f80_0000)
  -- "finite": no NaN, no infinity of either sign
  finites : (finite nan ≡ false) × (finite infinite ≡ false) × (finite (inf true) ≡ false) × (finite largest ≡ true) × (finite -0 ≡ true) × (finite -least ≡ true)
  -- `total_cmp`: -infinity, negatives by falling magnitude, -0, +0, positives, infinity, a NaN
  negatives : (before (inf true) (fin true 16777215 (pos 104)) ≡ true) × (before (fin true 1 (pos 1)) -1 ≡ true) × (before -1 -least ≡ true) × (before -least -0 ≡ true)
  zeros : (before -0 nought ≡ true) × (before nought -0 ≡ false)
  positives : (before nought least ≡ true) × (before least #1 ≡ true) × (before #1 largest ≡ true) × (before largest infinite ≡ true) × (before infinite nan ≡ true)
  -- "the next f32 above": above either zero, 1, the largest, infinity, a NaN
  next : (to_bits binary32 (next_up nought) ≡ 1) × (to_bits binary32 (next_up -0) ≡ 1) × (to_bits binary32 (next_up #1) ≡ 0x3f80_0001)
      × (next_up largest ≡ inf false) × (next_up infinite ≡ inf false) × (next_up nan ≡ nan)
  -- and above -2 ^ -149, -1 and -infinity
  next-negative : (to_bits binary32 (next_up -least) ≡ 0x8000_0000) × (to_bits binary32 (next_up -1) ≡ 0xbf7f_ffff) × (to_bits binary32 (next_up (inf true)) ≡ 0xff7f_ffff)
  -- widened: the same number, -0, a NaN and infinities too
  widened : (widen -0 ≡ -0) × (widen least ≡ least) × (widen largest ≡ largest) × (widen nan ≡ nan) × (widen (inf true) ≡ inf true)
  -- narrowed: "round to nearest even" at the half-way points above 1, and at 1/3 of the way
  narrowed : (to_bits binary32 (narrow (fin false 16777217 (negsuc 23))) ≡ 0x3f80_0000) × (to_bits binary32 (narrow (fin false 16777219 (negsuc 23))) ≡ 0x3f80_0002)
      × (to_bits binary32 (narrow (fin false 25165825 (negsuc 24))) ≡ 0x3f40_0000) × (to_bits binary32 (narrow -1) ≡ 0xbf80_0000)
  -- at the ends: half of 2 ^ -149 is 0, three quarters are not, and the sign of what vanishes stays; half a unit above the largest is infinite
  narrowed-ends : (to_bits binary32 (narrow (fin false 1 (negsuc 149))) ≡ 0) × (to_bits binary32 (narrow (fin false 3 (negsuc 150))) ≡ 1)
      × (to_bits binary32 (narrow (fin true 1 (negsuc 199))) ≡ 0x8000_0000) × (narrow (fin true 33554431 (pos 103)) ≡ inf true)
  narrowed-others : (narrow nan ≡ nan) × (narrow infinite ≡ inf false) × (narrow (inf true) ≡ inf true)
  -- the greatest s with s·s at most n
  whole : (whole_root 0 ≡ 0) × (whole_root 1 ≡ 1) × (whole_root 3 ≡ 1) × (whole_root 4 ≡ 2) × (whole_root 8 ≡ 2) × (whole_root 9 ≡ 3) × (whole_root 15 ≡ 3) × (whole_root 16 ≡ 4)

table : Table
unfolding finite next_up widen narrow key whole_root root_digits to_bits of_bits of_fields add sum round units odd size
table =
    record {
      constants = (refl, refl);
      finites = (refl, refl, refl, refl, refl, refl);
      negatives = (refl, refl, refl, refl);
      zeros = (refl, refl);
      positives = (refl, refl, refl, refl, refl);
      next = (refl, refl, refl, refl, refl, refl);
      next-negative = (refl, refl, refl);
      widened = (refl, refl, refl, refl, refl);
      narrowed = (refl, refl, refl, refl);
      narrowed-ends = (refl, refl, refl, refl);
      narrowed-others = (refl, refl, refl);
      whole = (refl, refl, refl, refl, refl, refl, refl, refl);
    }
