-- A table over the definitions: numbers as text at the ends of their lengths, and a text put into lent bytes. Every row is by computation.
use mathlib.Core.Path.{◌≡◌, refl}
use mathlib.Core.List.{[], ◌∷◌}
use native.Mathlib.Omega.{arith}
use Rattle.text.specs.Text.{letter, digits, places, decimal, hex8}
use Rattle.text.specs.Puts.{Puts}

record Table : Type 0 where
  -- 0, 9, 10, 1024, the largest u32
  nought : decimal 0 ≡ 48 ∷ []
  nine : decimal 9 ≡ 57 ∷ []
  ten : decimal 10 ≡ 49 ∷ 48 ∷ []
  most : decimal 1024 ≡ 49 ∷ 48 ∷ 50 ∷ 52 ∷ []
  largest : decimal 4294967295 ≡ 52 ∷ 50 ∷ 57 ∷ 52 ∷ 57 ∷ 54 ∷ 55 ∷ 50 ∷ 57 ∷ 53 ∷ []
  -- 3f800000, and 00abcdef
  hex-one : hex8 0x3f80_0000 ≡ 51 ∷ 102 ∷ 56 ∷ 48 ∷ 48 ∷ 48 ∷ 48 ∷ 48 ∷ []
  hex-letters : hex8 0x00ab_cdef ≡ 48 ∷ 48 ∷ 97 ∷ 98 ∷ 99 ∷ 100 ∷ 101 ∷ 102 ∷ []
  -- 10, 11 from place 1 on
  put : Puts (10 ∷ 11 ∷ []) 1 (7 ∷ 7 ∷ 7 ∷ 7 ∷ []) 3 (7 ∷ 10 ∷ 11 ∷ 7 ∷ [])

table : Table
unfolding letter digits places decimal hex8
table =
    record {
      nought = refl;
      nine = refl;
      ten = refl;
      most = refl;
      largest = refl;
      hex-one = refl;
      hex-letters = refl;
      put = record { fits = omega arith; end = refl; list = refl };
    }
