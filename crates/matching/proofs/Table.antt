-- A table over the definitions: limits at their edges, 01's examples 4 and 6 through matching, the refusals in their order, pairs and parts. Every row is by computation.
use mathlib.Core.Path.{◌≡◌, refl, ap, ◌∙◌}
use mathlib.Core.Bool.{true, false, ◌||◌}
use mathlib.Core.List.{List, [], ◌∷◌}
use Prim.Native.Nat.{ℕ}
use lib.IntN.{pos, negsuc}
use lib.ListN.{length}
use lib.Ieee.{Float, nan, inf, fin, binary32, to_bits, of_bits, of_fields, add, sub, mul, neg, sum, round, units, odd, size, le, lt, eq}
use Rattle.bits.specs.Constants.{nought, infinite}
use Rattle.bits.specs.NextUp.{next_up}
use Rattle.space.specs.declared.Point3f.{Point3f}
use Rattle.space.specs.Distance.{distance_squared, apart, left_is_near}
use Rattle.tree.specs.Refuse.{Outcome, refused, gives, refuse, short, count, too_many, no_match, any_entry_outside, any_index_outside}
use Rattle.tree.specs.Slots.{slots}
use Rattle.tree.specs.Part.{part_of, lent}
use Rattle.tree.specs.Walk.{walk}
use Rattle.search.specs.declared.Nearest.TheVariants.{Found, Nothing}
use Rattle.search.specs.Search.{walked, searched}
use Rattle.std.proofs.Common.{Result, Ok, Err, Option, None, Some}
use Rattle.tree.specs.declared.Refusal.{Refusal}
use Rattle.tree.specs.declared.Refusal.TheVariants.{ShortOutput}
use Rattle.matching.specs.Limit.{bound_of}
use Rattle.matching.specs.Entries.{entries_from}
use Rattle.matching.specs.Refusals.{in_order, two}
use Rattle.matching.specs.Matching.{seed_of, match_of, answer_for, match_all, match_in}
use Rattle.matching.specs.Pairs.{pairs_from, pairs, pairs_in, written}
use Rattle.matching.specs.TargetPoint.{part_at, place_of}
use Rattle.matching.specs.Promises.{HandsPart, ListsPairs, Matches}

abbrev o : Float
o = fin false 0 (pos 0)

abbrev i : Float
i = fin false 1 (pos 0)

abbrev ii : Float
ii = fin false 1 (pos 1)

abbrev v : Float
v = fin false 5 (pos 0)

abbrev half : Float
half = fin false 1 (negsuc 0)

abbrev at : Float → Float → Point3f
at x y = record { x = x; y = y; z = o }

-- 01's cloud K, and its tree as lent
abbrev K : List Float
K = i ∷ o ∷ o ∷ o ∷ o ∷ o ∷ ii ∷ o ∷ o ∷ o ∷ v ∷ o ∷ []

abbrev coords_k : List Float
coords_k = o ∷ v ∷ o ∷ o ∷ o ∷ o ∷ i ∷ o ∷ o ∷ ii ∷ o ∷ o ∷ []

abbrev of_k : List ℕ
of_k = 3 ∷ 1 ∷ 0 ∷ 2 ∷ []

abbrev in-K : List Float → Option Float → List ℕ → Outcome (List ℕ)
in-K source limit seeds = match_in source K coords_k of_k limit seeds

-- one source point
abbrev one1 : List Float
one1 = i ∷ i ∷ o ∷ []

abbrev on_half : List Float
on_half = half ∷ o ∷ o ∷ []

record Table : Type 0 where
  -- "d >= 0 (also -0) gives the next f32 above d·d": by its bits
  limits : (to_bits binary32 (bound_of (Some o)) ≡ 1) × (to_bits binary32 (bound_of (Some (fin true 0 (pos 0)))) ≡ 1) × (to_bits binary32 (bound_of (Some i)) ≡ 0x3f80_0001)
      × (to_bits binary32 (bound_of (Some ii)) ≡ 0x4080_0001) × (to_bits binary32 (bound_of (Some (fin false 1 (negsuc 79)))) ≡ 1)
  -- "d < 0 gives 0", "infinity staying infinity", "NaN or no limit gives infinity"
  limits-else : (bound_of (Some (fin true 1 (pos 0))) ≡ nought) × (bound_of (Some (inf true)) ≡ nought) × (bound_of (Some (fin false 1 (pos 64))) ≡ infinite)
      × (bound_of (Some infinite) ≡ infinite) × (bound_of (Some nan) ≡ infinite) × (bound_of None ≡ infinite)
  -- "if its seed s is present, the seed's distance is taken to target point s"
  seeds : (seed_of K (at i i) no_match ≡ Nothing) × (seed_of K (at i i) 0 ≡ Found 0 i) × (seed_of K (at i i) 3 ≡ Found 3 (fin false 17 (pos 0)))
  entries : (match_of (Found 7 i) ≡ 7) × (match_of Nothing ≡ 4294967295)
  -- each source point by itself: (1, 1, 0), a NaN, (2, 0, 0)
  in-order : in-K (i ∷ i ∷ o ∷ nan ∷ o ∷ o ∷ ii ∷ o ∷ o ∷ []) None (no_match ∷ no_match ∷ no_match ∷ []) ≡ gives (0 ∷ no_match ∷ 2 ∷ [])
  -- examples 5 and 6 through matching: a seed stays unless a point is strictly nearer, and one at a NaN does not
  unseeded : in-K on_half None (no_match ∷ []) ≡ gives (0 ∷ [])
  seeded : in-K on_half None (1 ∷ []) ≡ gives (1 ∷ [])
  seed-farther : in-K on_half None (2 ∷ []) ≡ gives (0 ∷ [])
  -- example 4: a point at exactly the limit is kept; below it none; a difference of 2^-80 lies within limit 0
  at-limit : in-K one1 (Some i) (no_match ∷ []) ≡ gives (0 ∷ [])
  under-limit : in-K one1 (Some half) (no_match ∷ []) ≡ gives (no_match ∷ [])
  limit-nought : in-K (i ∷ fin false 1 (negsuc 79) ∷ o ∷ []) (Some o) (no_match ∷ []) ≡ gives (0 ∷ [])
  seed-beyond-limit : in-K one1 (Some half) (0 ∷ []) ≡ gives (no_match ∷ [])
  -- 1, for each of the four lists
  ones : (in-K (i ∷ []) None [] ≡ refused 1) × (match_in one1 (i ∷ o ∷ o ∷ i ∷ []) [] [] None (no_match ∷ []) ≡ refused 1)
      × (match_in one1 K [] of_k None (no_match ∷ []) ≡ refused 1) × (in-K one1 None [] ≡ refused 1) × (in-K one1 None (0 ∷ 0 ∷ []) ≡ refused 1)
  -- 4, for either cloud, and before 5
  fours : (in-K [] None [] ≡ refused 4) × (match_in one1 [] [] [] None (no_match ∷ []) ≡ refused 4) × (match_in [] K coords_k (9 ∷ 1 ∷ 0 ∷ 2 ∷ []) None [] ≡ refused 4)
  -- 5, for a seed and for an index in the tree; a seed goes by the target count
  fives : (in-K one1 None (4 ∷ []) ≡ refused 5) × (match_in one1 K coords_k (3 ∷ 1 ∷ 0 ∷ 4 ∷ []) None (no_match ∷ []) ≡ refused 5)
      × (match_in one1 K coords_k (3 ∷ 1 ∷ 0 ∷ no_match ∷ []) None (no_match ∷ []) ≡ refused 5) × (in-K one1 None (3 ∷ []) ≡ gives (0 ∷ []))
  -- "Tested in the order 1, 2, 4, 3, 5"
  tested : (in_order {A = ℕ} true true true true (gives 0) ≡ refused 1) × (in_order {A = ℕ} false true true true (gives 0) ≡ refused 2) × (in_order {A = ℕ} false false true true (gives 0) ≡ refused 4)
      × (in_order {A = ℕ} false false false true (gives 0) ≡ refused 5) × (in_order {A = ℕ} false false false false (gives 0) ≡ gives 0)
  -- source and target of each matched entry, in source order; what is beyond keeps its value
  listed : ListsPairs (1 ∷ no_match ∷ 0 ∷ []) (7 ∷ 7 ∷ 7 ∷ []) (8 ∷ 8 ∷ []) (Ok 2) (0 ∷ 2 ∷ 7 ∷ []) (1 ∷ 0 ∷ [])
  -- 3, for either list, which then stay as they were
  no-sources : ListsPairs (1 ∷ no_match ∷ 0 ∷ []) (7 ∷ []) (8 ∷ 8 ∷ []) (Err ShortOutput) (7 ∷ []) (8 ∷ 8 ∷ [])
  no_targets : ListsPairs (1 ∷ no_match ∷ 0 ∷ []) (7 ∷ 7 ∷ []) (8 ∷ []) (Err ShortOutput) (7 ∷ 7 ∷ []) (8 ∷ [])
  -- the part of a point and where it begins, in a cloud that begins at byte 100; and the empty part
  part : HandsPart (7, 100) K 2 (7, 124) (ii ∷ o ∷ o ∷ [])
  part-outside : HandsPart (7, 100) K 4 (7, 100) []
  part-ragged : HandsPart (7, 100) (i ∷ i ∷ i ∷ i ∷ []) 0 (7, 100) []
  -- what the promise leaves in the match list
  left_over : {r : Result (Unit {0}) Refusal} {l : List ℕ} → Matches one1 K coords_k of_k None (no_match ∷ []) r l → l ≡ 0 ∷ []
  left-refused : {r : Result (Unit {0}) Refusal} {l : List ℕ} → Matches one1 K coords_k of_k None (4 ∷ []) r l → l ≡ 4 ∷ []

table : Table
unfolding
    bound_of next_up of_bits of_fields to_bits seed_of answer_for match_all match_in entries_from searched walked walk lent part_of slots any_entry_outside any_index_outside
    pairs pairs_from pairs_in part_at place_of distance_squared apart left_is_near add sub mul neg sum round units odd size le lt eq
table =
    record {
      limits = (refl, refl, refl, refl, refl);
      limits-else = (refl, refl, refl, refl, refl, refl);
      seeds = (refl, refl, refl);
      entries = (refl, refl);
      in-order = refl;
      unseeded = refl;
      seeded = refl;
      seed-farther = refl;
      at-limit = refl;
      under-limit = refl;
      limit-nought = refl;
      seed-beyond-limit = refl;
      ones = (refl, refl, refl, refl, refl);
      fours = (refl, refl, refl);
      fives = (refl, refl, refl, refl);
      tested = (refl, refl, refl, refl, refl);
      listed = record { returns = refl; sources_left = refl; targets_left = refl };
      no-sources = record { returns = refl; sources_left = refl; targets_left = refl };
      no_targets = record { returns = refl; sources_left = refl; targets_left = refl };
      part = record { holds = refl; stands = refl };
      part-outside = record { holds = refl; stands = refl };
      part-ragged = record { holds = refl; stands = refl };
      left_over = λ m. m.list_left;
      left-refused = λ m. m.list_left;
    }

-- 2: lists that long are too long for a row, so that it is told of every list
module _ (source target coords : List Float) (indices matches : List ℕ) (few_sources : too_many (count source) ≡ false) where
  long-target : too_many (count target) ≡ true → two source target coords indices matches ≡ true
  long-target h =
      ap (λ b. b || too_many (count target) || too_many (length indices) || too_many (length matches)) few_sources
      ∙ ap (λ b. b || too_many (length indices) || too_many (length matches)) h

  long-tree : too_many (count target) ≡ false → too_many (length indices) ≡ true → two source target coords indices matches ≡ true
  long-tree few h =
      ap (λ b. b || too_many (count target) || too_many (length indices) || too_many (length matches)) few_sources
      ∙ ap (λ b. b || too_many (length indices) || too_many (length matches)) few
      ∙ ap (λ b. b || too_many (length matches)) h

-- and before 3
long-pairs : (matches sources targets : List ℕ) → too_many (length matches) ≡ true → pairs_in matches sources targets ≡ refused 2
unfolding pairs_in
long-pairs matches sources targets h =
    let ps = pairs matches in
    ap (λ b. refuse 2 b (refuse 3 (short sources (length ps) || short targets (length ps)) (gives (written ps sources targets)))) h
