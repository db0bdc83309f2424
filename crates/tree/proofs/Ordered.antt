-- What a built tree is good for: it holds each slot once, and at each node the left part ranks at most as the node and the right part at least.
-- On such a part the pruned walk leaves nothing out that a search would take. Assumes nothing.
use mathlib.Core.Path.{◌≡◌, refl, sym, subst}
use mathlib.Core.Bool.{Bool, true, false, cond}
use mathlib.Core.List.{List, [], ◌∷◌, ◌++◌}
use mathlib.Core.List.Memᴰ
use mathlib.Core.List.{Memᴰ}
use mathlib.Core.List.Permᴰ
use mathlib.Core.List.{Permᴰ}
use Prim.Native.Nat.{ℕ, zero, suc, ◌/◌, ◌≤◌}
use native.Mathlib.Nat.{not-suc-le-zero}
use native.Mathlib.Omega.{arith}
use lib.ListN.{length, length-take, length-drop}
use lib.Seq.{split_at}
use lib.Ieee.{Float}
use Rattle.space.specs.declared.Point3f.{Point3f}
use Rattle.tree.specs.Slots.{Slot, none, rank}
use Rattle.tree.specs.Part.{Part, empty, split, laid}
use Rattle.tree.specs.Sort.{sort}
use Rattle.tree.specs.Grow.{next_axis, grow}
use Rattle.tree.specs.Walk.{order, each, walk}
use Rattle.tree.proofs.Step.{laid-step, median, lower, higher, grow-nil, grow-step, goes_left, plane}
use Rattle.tree.proofs.Perm.{perm-mem, perm-of-eq, perm-append}
use Rattle.tree.proofs.Sort.{sort-perm, sort-length, Sorted, sort_sorted, sorted-around}
use Rattle.tree.proofs.Walk.{Idle, AllIdle, FarIdle, pruned}

-- ---- at each node

unfoldable pub Ordered : ℕ → Part → Type 0
Ordered axis empty = Unit {0}
Ordered axis (split m l r) =
    ((s : Slot) → Memᴰ s (laid l) → rank axis s ≤ rank axis m)
    × ((t : Slot) → Memᴰ t (laid r) → rank axis m ≤ rank axis t)
    × Ordered (next_axis axis) l
    × Ordered (next_axis axis) r

-- ---- the ranks of a group, cut at the median

-- the parts are shorter than the group
pub lower-fits : (axis : ℕ) (x : Slot) (ss : List Slot) (f : ℕ) → suc (length ss) ≤ suc f → length (lower axis x ss) ≤ f
lower-fits axis x ss f h = omega (arith, length-take (length ss / 2) (sort (rank axis) (x ∷ ss)))

pub higher-fits : (axis : ℕ) (x : Slot) (ss : List Slot) (f : ℕ) → suc (length ss) ≤ suc f → length (higher axis x ss) ≤ f
higher-fits axis x ss f h = omega (arith, length-drop (suc (length ss / 2)) (sort (rank axis) (x ∷ ss)), sort-length (rank axis) (x ∷ ss))

ranked-cut : (axis : ℕ) (x : Slot) (ss : List Slot) → sort (rank axis) (x ∷ ss) ≡ lower axis x ss ++ median axis x ss ∷ higher axis x ss
ranked-cut axis x ss = split_at (sort (rank axis) (x ∷ ss)) (length ss / 2) none (omega (arith, sort-length (rank axis) (x ∷ ss)))

around : (axis : ℕ) (x : Slot) (ss : List Slot)
    → ((s : Slot) → Memᴰ s (lower axis x ss) → rank axis s ≤ rank axis (median axis x ss))
    × ((t : Slot) → Memᴰ t (higher axis x ss) → rank axis (median axis x ss) ≤ rank axis t)
around axis x ss =
    sorted-around (rank axis) (lower axis x ss) (median axis x ss) (higher axis x ss)
    (subst (Sorted (rank axis)) (ranked-cut axis x ss) (sort_sorted (rank axis) (x ∷ ss)))

-- ---- the tree holds the slots

pub laid-perm : (f axis : ℕ) (l : List Slot) → length l ≤ f → Permᴰ (laid (grow f axis l)) l
unfolding laid
laid-perm zero axis [] h = rw (grow-nil zero axis) Permᴰ.nil
laid-perm zero axis (x ∷ ss) h = absurd (not-suc-le-zero h)
laid-perm (suc f) axis [] h = rw (grow-nil (suc f) axis) Permᴰ.nil
laid-perm (suc f) axis (x ∷ ss) h =
    rw (grow-step f axis x ss, laid-step (median axis x ss) (grow f (next_axis axis) (lower axis x ss)) (grow f (next_axis axis) (higher axis x ss)))
    (Permᴰ.trans
    (Permᴰ.cons refl
    (perm-append (laid-perm f (next_axis axis) (lower axis x ss) (lower-fits axis x ss f h))
    (laid-perm f (next_axis axis) (higher axis x ss) (higher-fits axis x ss f h))))
    (Permᴰ.trans (Permᴰ.symm (Permᴰ.middle (median axis x ss) (lower axis x ss) (higher axis x ss)))
    (Permᴰ.trans (perm-of-eq (sym (ranked-cut axis x ss))) (sort-perm (rank axis) (x ∷ ss)))))

-- ---- and is in order

pub grow-ordered : (f axis : ℕ) (l : List Slot) → length l ≤ f → Ordered axis (grow f axis l)
unfolding Ordered
grow-ordered zero axis [] h = rw (grow-nil zero axis) tt
grow-ordered zero axis (x ∷ ss) h = absurd (not-suc-le-zero h)
grow-ordered (suc f) axis [] h = rw (grow-nil (suc f) axis) tt
grow-ordered (suc f) axis (x ∷ ss) h =
    rw (grow-step f axis x ss) (
      λ s m. (around axis x ss).0 s (perm-mem (laid-perm f (next_axis axis) (lower axis x ss) (lower-fits axis x ss f h)) m),
      λ t m. (around axis x ss).1 t (perm-mem (laid-perm f (next_axis axis) (higher axis x ss) (higher-fits axis x ss f h)) m),
      grow-ordered f (next_axis axis) (lower axis x ss) (lower-fits axis x ss f h),
      grow-ordered f (next_axis axis) (higher axis x ss) (higher-fits axis x ss f h),
    )

-- ---- so that pruning loses nothing
-- What a search owes: a slot that ranks on the far side of a node is idle when the node's plane is not entered. `Good` is what it may know of each slot.
module _ {S : Type 0} (visit : Slot → S → S) (enters : Float → S → Bool) (q : Point3f) (Good : Slot → Type 0)
    (right-idle : (axis : ℕ) (n m : Slot) → Good n → Good m → goes_left q axis n ≡ true → rank axis n ≤ rank axis m → Idle visit enters (plane q axis n) m)
    (left-idle : (axis : ℕ) (n m : Slot) → Good n → Good m → goes_left q axis n ≡ false → rank axis m ≤ rank axis n → Idle visit enters (plane q axis n) m)
  where
    pub far-idle : (axis : ℕ) (t : Part) → Ordered axis t → ((s : Slot) → Memᴰ s (laid t) → Good s) → FarIdle visit enters q axis t
    unfolding FarIdle Ordered laid
    far-idle axis empty o g = tt
    far-idle axis (split n l r) o g = (
      go (goes_left q axis n) refl,
      far-idle (next_axis axis) l o.2 (λ s m. g s (Memᴰ.tail (Memᴰ.append_left (laid r) m))),
      far-idle (next_axis axis) r o.3 (λ s m. g s (Memᴰ.tail (Memᴰ.append_right (laid l) m))),
    )
      where
        go : (c : Bool) → goes_left q axis n ≡ c → AllIdle visit enters (plane q axis n) (laid (cond c r l))
        go true e m k = right-idle axis n m (g n (Memᴰ.head refl)) (g m (Memᴰ.tail (Memᴰ.append_right (laid l) k))) e (o.1 m k)
        go false e m k = left-idle axis n m (g n (Memᴰ.head refl)) (g m (Memᴰ.tail (Memᴰ.append_left (laid r) k))) e (o.0 m k)

    -- the walk over an ordered part is a look at every slot
    pub ordered-walk : (axis : ℕ) (t : Part) → Ordered axis t → ((s : Slot) → Memᴰ s (laid t) → Good s) → (s : S)
        → walk visit enters q axis t s ≡ each visit (order q axis t) s
    ordered-walk axis t o g s = pruned visit enters q axis t (far-idle axis t o g) s
