-- What the two entries answer and leave behind, for every input. Definitions only.
use Rattle.std.specs.Prelude.{◌≡◌, Bool, true, false, ◌&&◌, ◌||◌, List, [], ◌∷◌, Result, ℕ, ◌*◌, eqb, length, Float}
use Rattle.std.specs.Float.{binary32}
use Rattle.std.specs.Float.Ieee.{to_bits}
use Rattle.tree.specs.Slots.{Slot, slots, numbers_of, indices_of}
use Rattle.tree.specs.Part.{laid}
use Rattle.tree.specs.Cloud.{tree_of}
use Rattle.tree.specs.Refuse.{Outcome, gives, refuse, returned, left, count, uneven, ragged, too_many, short, overwrite}
use Rattle.tree.specs.Refusal.{outcome_of}
use Rattle.tree.specs.declared.Refusal.{Refusal}

-- what a build gives: m, and both lent lists afterwards
pub record Written : Type 0 where
  pub slots : ℕ
  pub coords : List Float
  pub indices : List ℕ

-- "Build returns m and writes 3m numbers and m indices": the slots of the tree, laid out
unfoldable pub written : List Float → List Float → List ℕ → Written
unfolding tree_of laid numbers_of indices_of
written cloud coords indices =
    let ss = laid (tree_of cloud) in
    record { slots = length ss; coords = overwrite (numbers_of ss) coords; indices = overwrite (indices_of ss) indices }

-- "build needs 3n numbers and n indices for a cloud of n"
abbrev pub building : List Float → List Float → List ℕ → Outcome Written
building cloud coords indices =
    refuse 1 (ragged cloud)
    (refuse 2 (too_many (count cloud))
    (refuse 3 (short coords (3 * count cloud) || short indices (count cloud)) (gives (written cloud coords indices))))

-- the whole outcome of `build`: its answer and every lent number
pub record Builds (cloud cs : List Float) (is : List ℕ) (r : Result ℕ Refusal) (cs' : List Float) (is' : List ℕ) : Type 0 where
  pub answer : outcome_of r ≡ returned (λ w. w.slots) (building cloud cs is)
  pub coords : cs' ≡ left (λ w. w.coords) cs (building cloud cs is)
  pub indices : is' ≡ left (λ w. w.indices) is (building cloud cs is)

-- "float bits compared": -0 is not +0
abbrev pub same_bits : Float → Float → Bool
same_bits x y = eqb (to_bits binary32 x) (to_bits binary32 y)

abbrev pub same_slot : Slot → Slot → Bool
same_slot s t = same_bits s.point.x t.point.x && same_bits s.point.y t.point.y && same_bits s.point.z t.point.z && eqb s.index t.index

-- "another slot count is a no"
unfoldable pub same_slots : List Slot → List Slot → Bool
same_slots [] [] = true
same_slots [] (t ∷ ts) = false
same_slots (s ∷ ss) [] = false
same_slots (s ∷ ss) (t ∷ ts) = same_slot s t && same_slots ss ts

-- "A checking entry says yes exactly when the lent slots are the tree of the lent cloud"
abbrev pub checking : List Float → List Float → List ℕ → Outcome Bool
checking cloud coords indices =
    refuse 1 (ragged cloud || uneven coords indices)
    (refuse 2 (too_many (count cloud) || too_many (length indices)) (gives (same_slots (slots coords indices) (laid (tree_of cloud)))))
