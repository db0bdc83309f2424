-- A table over the definitions: document 01's example whole, and the smallest inputs at which each check of the header answers, in an order that tells the checks apart.
-- Every row is by computation.
use mathlib.Core.Path.{◌≡◌, refl}
use mathlib.Core.List.{List, [], ◌∷◌, ◌++◌}
use Prim.Native.Nat.{ℕ, ◌/◌, ◌%◌}
use lib.ListN.{take, replicate}
use lib.Ieee.{of_bits, of_fields, to_bits, size, lt, le, eq, add, sub, mul, div, neg, sum, round, units, odd, of_int}
use Rattle.bits.specs.Convert.{widen, narrow}
use Rattle.bits.specs.Finite.{finite}
use Rattle.bits.specs.Key.{key}
use Rattle.space.specs.Distance.{apart, left_is_near, distance_squared}
use Rattle.tree.specs.Slots.{rank, slots, numbers_of, indices_of}
use Rattle.tree.specs.Sort.{sort, insert}
use Rattle.tree.specs.Part.{laid, part_of, lent}
use Rattle.tree.specs.Grow.{grow}
use Rattle.tree.specs.Cloud.{points, finite_point, finite_from, indexed, tree_of}
use Rattle.tree.specs.Walk.{walk}
use Rattle.search.specs.Search.{walked, searched}
use Rattle.matching.specs.Limit.{bound_of}
use Rattle.matching.specs.Entries.{entries_from}
use Rattle.matching.specs.Matching.{seed_of, answer_for, match_all}
use Rattle.matching.specs.Pairs.{pair, pairs_from, pairs}
use Rattle.sums.specs.Stats.{add_pair, merge_sums, mse}
use Rattle.sums.specs.Sums.{add_entry, add_entries, cut, add_runs, sums_by, sums}
use Rattle.scan.specs.Input.{word, numbers, header}
use Rattle.text.specs.Text.{letter, digits, places, decimal, hex8}
use Rattle.scan.specs.Promises.{side, Answers}
use Rattle.scan.specs.Program.{matches_of, count_line, pair_line, pair_lines, mse_line, report_lines, report, refusal, answered, program}

-- ---- inputs

-- the four bytes of a u32, the lowest first
abbrev u32 : ℕ → List ℕ
u32 n = n % 256 ∷ n / 256 % 256 ∷ n / 65536 % 256 ∷ n / 16777216 ∷ []

abbrev head : ℕ → ℕ → ℕ → ℕ → List ℕ
head s p t q = u32 s ++ u32 p ++ u32 t ++ u32 q

-- a point, by the bits of its coordinates
abbrev point : ℕ → ℕ → ℕ → List ℕ
point x y z = u32 x ++ u32 y ++ u32 z

abbrev #1 : ℕ
#1 = 0x3f80_0000

abbrev #2 : ℕ
#2 = 0x4000_0000

abbrev #5 : ℕ
#5 = 0x40a0_0000

abbrev not_a_number : ℕ
not_a_number = 0x7fc0_0000

-- document 01's cloud K
abbrev K : List ℕ
K = point #1 0 0 ++ point 0 0 0 ++ point #2 0 0 ++ point 0 #5 0

abbrev zeros : ℕ → List ℕ
zeros n = replicate n 0

-- ---- outputs

-- `refused ` and a digit
abbrev refused_text : ℕ → List ℕ
refused_text d = 114 ∷ 101 ∷ 102 ∷ 117 ∷ 115 ∷ 101 ∷ 100 ∷ 32 ∷ d ∷ 10 ∷ []

-- `pairs ` and a digit
abbrev pairs_text : ℕ → List ℕ
pairs_text d = 112 ∷ 97 ∷ 105 ∷ 114 ∷ 115 ∷ 32 ∷ d ∷ 10 ∷ []

-- `mse ` and eight digits, of which the last five are 0
abbrev mse_text : ℕ → ℕ → ℕ → List ℕ
mse_text a b c = 109 ∷ 115 ∷ 101 ∷ 32 ∷ a ∷ b ∷ c ∷ 48 ∷ 48 ∷ 48 ∷ 48 ∷ 48 ∷ 10 ∷ []

record Table : Type 0 where
  -- `pairs 1`, `0 0`, `mse 3f800000`
  example : program (head 1 16 4 28 ++ point #1 #1 0 ++ K) ≡ pairs_text 49 ++ (48 ∷ 32 ∷ 48 ∷ 10 ∷ []) ++ mse_text 51 102 56
  -- a short header is refused before what it says is read
  empty : program [] ≡ refused_text 49
  short : program (take 15 (head 1025 0 0 0)) ≡ refused_text 49
  -- a count over 1,024 before a zero count, and before the offsets
  many-sources : program (head 1025 0 0 0) ≡ refused_text 50
  many-targets : program (head 0 0 1025 0) ≡ refused_text 50
  most : program (head 1024 16 1024 12304) ≡ refused_text 49
  -- a zero count before the offsets
  no_source : program (head 0 0 1 0) ≡ refused_text 52
  no_target : program (head 1 0 0 0) ≡ refused_text 52
  -- each offset, and the length, where all else is right
  source-elsewhere : program (head 1 17 1 28 ++ zeros 24) ≡ refused_text 49
  target-elsewhere : program (head 1 16 1 29 ++ zeros 24) ≡ refused_text 49
  one-byte-less : program (head 1 16 1 28 ++ zeros 23) ≡ refused_text 49
  one-byte-more : program (head 1 16 1 28 ++ zeros 25) ≡ refused_text 49
  right : program (head 1 16 1 28 ++ zeros 24) ≡ pairs_text 49 ++ (48 ∷ 32 ∷ 48 ∷ 10 ∷ []) ++ mse_text 48 48 48
  -- a source point without a match
  unmatched : program (head 1 16 1 28 ++ point not_a_number 0 0 ++ zeros 12) ≡ pairs_text 48 ++ mse_text 48 48 48
  -- pairs in source order, one of three points without a match; the MSE is 1/2
  in_order : program (head 3 16 2 52 ++ point 0 0 #1 ++ point 0 not_a_number 0 ++ point #5 0 0 ++ point #5 0 0 ++ point 0 0 0)
      ≡ pairs_text 50 ++ (48 ∷ 32 ∷ 49 ∷ 10 ∷ 50 ∷ 32 ∷ 48 ∷ 10 ∷ []) ++ mse_text 51 102 48
  -- "without limit or seeds": of two targets as near, the one that comes first in near-first order, index 1
  no-seeds : program (head 1 16 2 28 ++ point 0x3f00_0000 0 0 ++ point #1 0 0 ++ point 0 0 0) ≡ pairs_text 49 ++ (48 ∷ 32 ∷ 49 ∷ 10 ∷ []) ++ mse_text 51 101 56
  -- what the function promises: how many bytes, and what is beyond them
  promised : Answers [] (7 ∷ 7 ∷ 7 ∷ 7 ∷ 7 ∷ 7 ∷ 7 ∷ 7 ∷ 7 ∷ 7 ∷ 7 ∷ 8 ∷ []) 10 (refused_text 49 ++ 7 ∷ 8 ∷ [])
  -- sources and targets side by side
  sides : side (0 ∷ 2 ∷ []) (5 ∷ 6 ∷ 7 ∷ []) ≡ pair 0 5 ∷ pair 2 6 ∷ []
  -- hexadecimal 0012cdef
  hex-written : hex8 0x0012_cdef ≡ 48 ∷ 48 ∷ 49 ∷ 50 ∷ 99 ∷ 100 ∷ 101 ∷ 102 ∷ []

table : Table
unfolding program answered side header word numbers refusal report report_lines count_line pair_lines pair_line mse_line decimal hex8 digits places letter matches_of match_all answer_for seed_of entries_from bound_of searched walked walk lent part_of slots apart left_is_near distance_squared tree_of indexed finite_from finite_point points finite grow sort insert rank key laid numbers_of indices_of pairs pairs_from sums sums_by cut add_runs add_entries add_entry add_pair merge_sums mse widen narrow of_bits of_fields to_bits size lt le eq add sub mul div neg sum round units odd of_int
table =
    record {
      example = refl;
      empty = refl;
      short = refl;
      many-sources = refl;
      many-targets = refl;
      most = refl;
      no_source = refl;
      no_target = refl;
      source-elsewhere = refl;
      target-elsewhere = refl;
      one-byte-less = refl;
      one-byte-more = refl;
      right = refl;
      unmatched = refl;
      in_order = refl;
      no-seeds = refl;
      promised = record { returns = refl; written = refl };
      sides = refl;
      hex-written = refl;
    }
