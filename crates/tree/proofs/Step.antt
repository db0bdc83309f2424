-- Document 01's rules one node at a time, as equations that the laws rewrite by. Assumes nothing.
use mathlib.Core.Path.{◌≡◌, refl}
use mathlib.Core.Bool.{Bool, true, false, cond}
use mathlib.Core.List.{List, [], ◌∷◌, ◌++◌}
use Prim.Native.Nat.{ℕ, zero, suc, ◌/◌}
use lib.ListN.{length, get_or, take, drop}
use lib.Ieee.{Float}
use Rattle.space.specs.declared.Point3f.{Point3f}
use Rattle.space.specs.Distance.{apart, left_is_near, square}
use Rattle.tree.specs.Slots.{Slot, none, rank}
use Rattle.tree.specs.Part.{Part, empty, split, laid, part_of}
use Rattle.tree.specs.Sort.{sort}
use Rattle.tree.specs.Grow.{next_axis, grow}
use Rattle.tree.specs.Walk.{order, walk}

-- ---- "Slots: root, left part, right part"

pub laid-step : (n : Slot) (l r : Part) → laid (split n l r) ≡ n ∷ laid l ++ laid r
unfolding laid
laid-step n l r = refl

-- ---- "children follow from the counts"

pub part_of-nil : (f : ℕ) → part_of f [] ≡ empty
unfolding part_of
part_of-nil zero = refl
part_of-nil (suc f) = refl

pub part_of-step : (f : ℕ) (n : Slot) (ss : List Slot)
    → part_of (suc f) (n ∷ ss) ≡ split n (part_of f (take (length ss / 2) ss)) (part_of f (drop (length ss / 2) ss))
unfolding part_of
part_of-step f n ss = refl

-- ---- "the median is the root, lower ranks form the left part, higher ranks the right, each built one level deeper"

abbrev pub median : ℕ → Slot → List Slot → Slot
median axis x ss = get_or (sort (rank axis) (x ∷ ss)) (length ss / 2) none

abbrev pub lower : ℕ → Slot → List Slot → List Slot
lower axis x ss = take (length ss / 2) (sort (rank axis) (x ∷ ss))

abbrev pub higher : ℕ → Slot → List Slot → List Slot
higher axis x ss = drop (suc (length ss / 2)) (sort (rank axis) (x ∷ ss))

pub grow-nil : (f axis : ℕ) → grow f axis [] ≡ empty
unfolding grow
grow-nil zero axis = refl
grow-nil (suc f) axis = refl

pub grow-step : (f axis : ℕ) (x : Slot) (ss : List Slot)
    → grow (suc f) axis (x ∷ ss) ≡ split (median axis x ss) (grow f (next_axis axis) (lower axis x ss)) (grow f (next_axis axis) (higher axis x ss))
unfolding grow
grow-step f axis x ss = refl

-- ---- "node, near part, far part"

-- whether the left part is the near one
abbrev pub goes_left : Point3f → ℕ → Slot → Bool
goes_left q axis n = left_is_near (apart axis q n.point)

-- a node's a·a
abbrev pub plane : Point3f → ℕ → Slot → Float
plane q axis n = square (apart axis q n.point)

abbrev pub near_part : Point3f → ℕ → Slot → Part → Part → Part
near_part q axis n l r = cond (goes_left q axis n) l r

abbrev pub far_part : Point3f → ℕ → Slot → Part → Part → Part
far_part q axis n l r = cond (goes_left q axis n) r l

pub order-step : (q : Point3f) (axis : ℕ) (n : Slot) (l r : Part)
    → order q axis (split n l r) ≡ n ∷ order q (next_axis axis) (near_part q axis n l r) ++ order q (next_axis axis) (far_part q axis n l r)
unfolding order
order-step q axis n l r = go (goes_left q axis n)
  where
    go : (c : Bool)
        → n ∷ cond c (order q (next_axis axis) l ++ order q (next_axis axis) r) (order q (next_axis axis) r ++ order q (next_axis axis) l)
        ≡ n ∷ order q (next_axis axis) (cond c l r) ++ order q (next_axis axis) (cond c r l)
    go true = refl
    go false = refl

-- ---- "A far part is judged when its near part is done"

module _ {S : Type 0} (visit : Slot → S → S) (enters : Float → S → Bool) where
  -- a part behind a plane, from what is held when it is judged
  abbrev pub entered : Float → (S → S) → S → S
  entered pl far s = cond (enters pl s) (far s) s

  pub walk-empty : (q : Point3f) (axis : ℕ) (s : S) → walk visit enters q axis empty s ≡ s
  unfolding walk
  walk-empty q axis s = refl

  pub walk_step : (q : Point3f) (axis : ℕ) (n : Slot) (l r : Part) (s : S)
      → walk visit enters q axis (split n l r) s
      ≡ entered (plane q axis n) (walk visit enters q (next_axis axis) (far_part q axis n l r)) (walk visit enters q (next_axis axis) (near_part q axis n l r) (visit n s))
  unfolding walk
  walk_step q axis n l r s = go (goes_left q axis n)
    where
      left : S → S
      left = walk visit enters q (next_axis axis) l

      right : S → S
      right = walk visit enters q (next_axis axis) r

      go : (c : Bool)
          → entered (plane q axis n) (cond c right left) (cond c left right (visit n s))
          ≡ entered (plane q axis n) (walk visit enters q (next_axis axis) (cond c r l)) (walk visit enters q (next_axis axis) (cond c l r) (visit n s))
      go true = refl
      go false = refl
