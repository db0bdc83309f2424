-- A table over the definitions: records of each function, right and wrong. Every row is by computation.
use Rattle.std.proofs.Common.{◌≡◌, ℕ, ◌/◌, ◌%◌, List, [], ◌∷◌, ◌++◌, refl}
use lib.Ieee.{of_bits, of_fields, to_bits, round, units, odd, size}
use Rattle.bits.specs.Finite.{finite}
use Rattle.bits.specs.NextUp.{next_up}
use Rattle.bits.specs.Convert.{widen, narrow}
use Rattle.bits.specs.Root.{root, whole_root, root_digits}
use Rattle.bits.specs.Key.{key}
use Rattle.bits_run.specs.Record.{word_at, result_of, judged}

-- eight bytes of a number, the lowest first
abbrev bytes : ℕ → List ℕ
bytes w =
    w % 256 ∷ w / 256 % 256 ∷ w / 65536 % 256 ∷ w / 16777216 % 256 ∷ w / 4294967296 % 256 ∷ w / 1099511627776 % 256 ∷ w / 281474976710656 % 256 ∷ w / 72057594037927936
    ∷ []

abbrev recorded : ℕ → ℕ → ℕ → ℕ
recorded kind x r = judged (bytes kind ++ bytes x ++ bytes r)

record Table : Type 0 where
  words : word_at (bytes 0x0102_0304_0506_0708) 0 ≡ 0x0102_0304_0506_0708
  -- next up of 1; 1 narrowed; the f32 root of 5, which lies above it; 1 is finite, and infinity is not; 1 widened
  right : (recorded 1 0x3f80_0000 0x3f80_0001 ≡ 1) × (recorded 2 0x3ff0_0000_0000_0000 0x3f80_0000 ≡ 2) × (recorded 3 0x40a0_0000 0x400f_1bbd ≡ 3)
  -- the f64 root of 2
  right-wide : recorded 4 0x4000_0000_0000_0000 0x3ff6_a09e_667f_3bcd ≡ 4
  right-finite : (recorded 5 0x3f80_0000 1 ≡ 5) × (recorded 5 0x7f80_0000 0 ≡ 5) × (recorded 6 0x3f80_0000 0x3ff0_0000_0000_0000 ≡ 6)
  -- of two numbers the first in the lower half: 1 comes before 2, and 2 not before 1
  right-order : (recorded 7 0x4000_0000_3f80_0000 1 ≡ 7) × (recorded 7 0x3f80_0000_4000_0000 0 ≡ 7)
  -- another result, a function that there is not, a record that is short
  wrong : (recorded 1 0x3f80_0000 0x3f80_0002 ≡ 0) × (recorded 7 0x4000_0000_3f80_0000 0 ≡ 0) × (recorded 8 0 0 ≡ 0) × (judged (bytes 1 ++ bytes 0) ≡ 0)

table : Table
unfolding judged result_of next_up narrow root whole_root root_digits finite widen key to_bits of_bits of_fields round units odd size
table =
    record {
      words = refl;
      right = (refl, refl, refl);
      right-wide = refl;
      right-finite = (refl, refl, refl);
      right-order = (refl, refl);
      wrong = (refl, refl, refl, refl);
    }
