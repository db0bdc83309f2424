-- Document 01, "The tree": "Slots: root, left part, right part .. children follow from the counts". Definitions only.
use Rattle.std.specs.Prelude.{ℕ, zero, suc, ◌/◌, List, [], ◌∷◌, ◌++◌, length, take, drop, Float}
use Rattle.tree.specs.Slots.{Slot, slots}

-- a group of points: its root, its left part, its right part
pub data Part : Type 0 where
  empty : Part
  split : Slot → Part → Part → Part

-- "Slots: root, left part, right part"
unfoldable pub laid : Part → List Slot
laid empty = []
laid (split n l r) = n ∷ laid l ++ laid r

-- The shape of any slots, from their count alone: of L slots the first is the root, the next (L - 1)/2 are the left part, the others the right. f is at least L.
unfoldable pub part_of : ℕ → List Slot → Part
part_of zero ss = empty
part_of (suc f) [] = empty
part_of (suc f) (n ∷ rest) = let k = length rest / 2 in split n (part_of f (take k rest)) (part_of f (drop k rest))

-- the lent slots as a part
unfoldable pub lent : List Float → List ℕ → Part
unfolding slots part_of
lent coords indices = part_of (length indices) (slots coords indices)
