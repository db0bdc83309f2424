-- What a stored record claims, and when it is right: the function's number, its argument and its result, as oracle/vectors.rs writes them. Definitions only.
use Rattle.std.specs.Prelude.{ℕ, ◌+◌, ◌*◌, ◌/◌, ◌%◌, cond, ◌&&◌, List, length, ◌==◌, nat_lt, slice_index, Float}
use Rattle.std.specs.Float.{binary32, binary64}
use Rattle.std.specs.Float.Ieee.{of_bits, to_bits}
use Rattle.bits.specs.Finite.{finite}
use Rattle.bits.specs.NextUp.{next_up}
use Rattle.bits.specs.Convert.{widen, narrow}
use Rattle.bits.specs.Root.{root}
use Rattle.bits.specs.Key.{key}

-- four bytes, and eight, as a number, the lowest first
abbrev pub half_at : List ℕ → ℕ → ℕ
half_at s i = slice_index s i + (slice_index s (i + 1) * 256 + (slice_index s (i + 2) * 65536 + slice_index s (i + 3) * 16777216))

abbrev pub word_at : List ℕ → ℕ → ℕ
word_at s i = half_at s i + half_at s (i + 4) * 4294967296

-- the f32 whose bits stand in the lower half of a word, or in the upper one
abbrev pub lower : ℕ → Float
lower x = of_bits binary32 (x % 4294967296)

abbrev pub upper : ℕ → Float
upper x = of_bits binary32 (x / 4294967296)

-- what the function of a number gives
unfoldable pub result_of : ℕ → ℕ → ℕ
unfolding next_up narrow root finite widen key to_bits of_bits
result_of kind x =
    cond (kind == 1) (to_bits binary32 (next_up (lower x)))
    (cond (kind == 2) (to_bits binary32 (narrow (of_bits binary64 x)))
    (cond (kind == 3) (to_bits binary32 (root binary32 (lower x)))
    (cond (kind == 4) (to_bits binary64 (root binary64 (of_bits binary64 x)))
    (cond (kind == 5) (cond (finite (lower x)) 1 0)
    (cond (kind == 6) (to_bits binary64 (widen (lower x)))
    (cond (kind == 7) (cond (nat_lt (key (lower x)) (key (upper x))) 1 0) 0))))))

-- the number of the function, if the record is whole and right, and 0 if it is not
unfoldable pub judged : List ℕ → ℕ
unfolding result_of
judged s = cond (length s == 24 && (nat_lt (word_at s 0) 8 && result_of (word_at s 0) (word_at s 8) == word_at s 16)) (word_at s 0) 0
