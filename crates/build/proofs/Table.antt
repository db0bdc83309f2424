-- A table over the definitions, beside Example: points that are not indexed, room, the order of the refusals, and slots that are no tree. Every row is by computation.
use mathlib.Core.Path.{◌≡◌, refl, ap, ap₂, ◌∙◌}
use mathlib.Core.Bool.{true, false, ◌||◌}
use mathlib.Core.List.{List, [], ◌∷◌}
use Prim.Native.Nat.{ℕ}
use lib.IntN.{pos}
use lib.ListN.{length}
use lib.Ieee.{Float, nan, fin, to_bits, size, eq}
use Rattle.bits.specs.Finite.{finite}
use Rattle.bits.specs.Key.{key}
use Rattle.tree.specs.Refuse.{refused, gives, refuse, returned, count, ragged, uneven, too_many}
use Rattle.tree.specs.Slots.{slots, rank, numbers_of, indices_of}
use Rattle.tree.specs.Sort.{sort, insert}
use Rattle.tree.specs.Part.{laid, part_of, lent}
use Rattle.tree.specs.Grow.{grow}
use Rattle.tree.specs.Cloud.{points, finite_point, finite_from, indexed, tree_of}
use Rattle.tree.proofs.Descent.{Reached}
use Rattle.build.specs.Check.{Decides, Found}
use Rattle.build.specs.Gather.{Gathered}
use Rattle.build.specs.Entries.{written, building, Builds, same_slots, checking}
use Rattle.std.proofs.Common.{Ok, Err}
use Rattle.tree.specs.declared.Refusal.TheVariants.{UnfitLengths}

abbrev o : Float
o = fin false 0 (pos 0)

abbrev i : Float
i = fin false 1 (pos 0)

abbrev v : Float
v = fin false 5 (pos 0)

-- two points, of which the second is indexed: n is 2 and m is 1
abbrev wild : List Float
wild = nan ∷ o ∷ o ∷ i ∷ o ∷ v ∷ []

abbrev room6 : List Float
room6 = o ∷ o ∷ o ∷ o ∷ o ∷ i ∷ []

record Table : Type 0 where
  -- "Build returns m and writes 3m numbers and m indices"; what is beyond keeps its value
  wild-built : Builds wild room6 (8 ∷ 9 ∷ []) (Ok 1) (i ∷ o ∷ v ∷ o ∷ o ∷ i ∷ []) (1 ∷ 9 ∷ [])
  -- "build needs 3n numbers and n indices": by n, and both
  room-by-n : returned (λ w. w.slots) (building wild (o ∷ o ∷ o ∷ []) (8 ∷ [])) ≡ refused 3
  room-of-numbers : returned (λ w. w.slots) (building wild (o ∷ o ∷ o ∷ o ∷ o ∷ []) (8 ∷ 9 ∷ [])) ≡ refused 3
  room-of-indices : returned (λ w. w.slots) (building wild room6 (8 ∷ [])) ≡ refused 3
  -- 1 before 3, and a refusal leaves every lent number as it was
  ragged-first : Builds (i ∷ i ∷ i ∷ i ∷ []) (v ∷ []) (9 ∷ []) (Err UnfitLengths) (v ∷ []) (9 ∷ [])
  none : Builds [] (v ∷ []) (9 ∷ []) (Ok 0) (v ∷ []) (9 ∷ [])
  -- "says yes exactly when the lent slots are the tree of the lent cloud"
  yes : checking wild (i ∷ o ∷ v ∷ []) (1 ∷ []) ≡ gives true
  yes-none : checking [] [] [] ≡ gives true
  another-index : checking wild (i ∷ o ∷ v ∷ []) (0 ∷ []) ≡ gives false
  another-x : checking wild (v ∷ o ∷ v ∷ []) (1 ∷ []) ≡ gives false
  another-y : checking wild (i ∷ v ∷ v ∷ []) (1 ∷ []) ≡ gives false
  another-z : checking wild (i ∷ o ∷ o ∷ []) (1 ∷ []) ≡ gives false
  -- "float bits compared"
  another-zero : checking wild (i ∷ fin true 0 (pos 0) ∷ v ∷ []) (1 ∷ []) ≡ gives false
  -- "another slot count is a no"
  no_slot : checking wild [] [] ≡ gives false
  a-slot-more : checking wild (i ∷ o ∷ v ∷ i ∷ o ∷ v ∷ []) (1 ∷ 1 ∷ []) ≡ gives false
  -- a wrong slot behind a right one
  second-wrong : checking (o ∷ o ∷ o ∷ i ∷ o ∷ o ∷ []) (o ∷ o ∷ o ∷ v ∷ o ∷ o ∷ []) (0 ∷ 1 ∷ []) ≡ gives false
  -- refused before it is judged
  ragged-cloud : checking (o ∷ []) [] [] ≡ refused 1
  uneven-slots : checking wild (i ∷ o ∷ v ∷ i ∷ []) (1 ∷ []) ≡ refused 1
  -- inside the functions: a point that is not finite is not kept, and is not asked to be reached
  kept : Gathered (i ∷ o ∷ v ∷ []) 1 (8 ∷ 9 ∷ []) (0 ∷ 9 ∷ [])
  not-kept : Gathered (nan ∷ o ∷ o ∷ []) 0 (8 ∷ 9 ∷ []) (8 ∷ 9 ∷ [])
  gathered : Gathered wild 1 (8 ∷ 9 ∷ []) (1 ∷ 9 ∷ [])
  unreached : Found (o ∷ o ∷ o ∷ []) [] [] 0 → ⊥
  denied : Decides false ⊥

table : Table
unfolding written points finite_point finite finite_from indexed tree_of grow sort insert laid rank key to_bits size eq numbers_of indices_of slots same_slots Found Reached lent part_of
table =
    record {
      wild-built = record { answer = refl; coords = refl; indices = refl };
      room-by-n = refl;
      room-of-numbers = refl;
      room-of-indices = refl;
      ragged-first = record { answer = refl; coords = refl; indices = refl };
      none = record { answer = refl; coords = refl; indices = refl };
      yes = refl;
      yes-none = refl;
      another-index = refl;
      another-x = refl;
      another-y = refl;
      another-z = refl;
      another-zero = refl;
      no_slot = refl;
      a-slot-more = refl;
      second-wrong = refl;
      ragged-cloud = refl;
      uneven-slots = refl;
      kept = record { count = refl; front = refl; rest = refl };
      not-kept = record { count = refl; front = refl; rest = refl };
      gathered = record { count = refl; front = refl; rest = refl };
      unreached = λ f. f refl;
      denied = λ x. x;
    }

-- 2: lists that long are too long for a row, so that it is told of every list
module _ (cloud coords : List Float) (indices : List ℕ) (even : (ragged cloud || uneven coords indices) ≡ false) where
  long-cloud : too_many (count cloud) ≡ true → checking cloud coords indices ≡ refused 2
  long-cloud h = ap₂ (λ a b. refuse 1 a (refuse 2 (b || too_many (length indices)) (gives (same_slots (slots coords indices) (laid (tree_of cloud)))))) even h

  long-tree : too_many (count cloud) ≡ false → too_many (length indices) ≡ true → checking cloud coords indices ≡ refused 2
  long-tree h k =
      ap₂ (λ a b. refuse 1 a (refuse 2 (b || too_many (length indices)) (gives (same_slots (slots coords indices) (laid (tree_of cloud)))))) even h
      ∙ ap (λ b. refuse 2 b (gives (same_slots (slots coords indices) (laid (tree_of cloud))))) k
