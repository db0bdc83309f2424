-- The laws of the checking entry's answer: each refusal, and that slots found and counted are the tree by their bits. Assumes nothing.
use mathlib.Core.Path.{◌≡◌, refl, sym, ap, ap₂, ◌∙◌, subst}
use mathlib.Core.Bool.{Bool, true, false, ◌&&◌}
use mathlib.Core.List.{List, [], ◌∷◌}
use mathlib.Core.List.Memᴰ
use mathlib.Core.List.{Memᴰ}
use Prim.Native.Nat.{ℕ, ◌+◌, ◌*◌, ◌%◌, ◌≤◌, ◌<◌}
use lib.Dec.{T, eqb}
use lib.ListN.{length, get_or, drop}
use lib.Seq.{get_or-drop}
use lib.Ieee.{Float, nan, binary32, fits, to_bits, of_bits}
use lib.Ieee.Bits.{of_bits-to_bits}
use borrow.Author.Tests.{eq-eqb, le-ltb, eqb-true}
use Rattle.space.specs.declared.Point3f.{Point3f}
use Rattle.tree.specs.Slots.{Slot, point_at, slots}
use Rattle.tree.specs.Part.{laid, lent}
use Rattle.tree.specs.Cloud.{finite_point, indexed, tree_of}
use Rattle.tree.specs.Refuse.{gives, count, most_points}
use Rattle.tree.proofs.Slots.{slots_length}
use Rattle.tree.proofs.Cloud.{indexed-is, indexed-slot, indexed-has, tree_of-is, tree_of-length, lent_laid, lent-tree}
use Rattle.tree.proofs.Descent.{Reached, all-reached, tree-reached}
use Rattle.select.specs.Order.{slot_of}
use Rattle.build.specs.Check.{Decides, Found}
use Rattle.build.specs.Entries.{same_bits, same_slot, same_slots, checking}

-- ---- by bits

both : (a b : Bool) → (a && b) ≡ true → (a ≡ true) × (b ≡ true)
both true b e = (refl, e)
both false b e = (e, absurd (subst T (sym e) tt))

bits-same : (x y : Float) → T (fits binary32 x) → T (fits binary32 y) → same_bits x y ≡ true → x ≡ y
bits-same x y f g e =
    sym (of_bits-to_bits binary32 x f) ∙ ap (of_bits binary32) (eqb-true (to_bits binary32 x) (to_bits binary32 y) e) ∙ of_bits-to_bits binary32 y g

bits-refl : (x : Float) → same_bits x x ≡ true
bits-refl x = eq-eqb (to_bits binary32 x) (to_bits binary32 x) refl

pub record Fitting (p : Point3f) : Type 0 where
  pub x : T (fits binary32 p.x)
  pub y : T (fits binary32 p.y)
  pub z : T (fits binary32 p.z)

slot_same : (s t : Slot) → Fitting s.point → Fitting t.point → same_slot s t ≡ true → s ≡ t
slot_same s t f g e =
    let a = both (same_bits s.point.x t.point.x && same_bits s.point.y t.point.y && same_bits s.point.z t.point.z) (eqb s.index t.index) e in
    let b = both (same_bits s.point.x t.point.x && same_bits s.point.y t.point.y) (same_bits s.point.z t.point.z) a.0 in
    let d = both (same_bits s.point.x t.point.x) (same_bits s.point.y t.point.y) b.0 in
    λ k.
    record {
      point =
          record {
            x = bits-same s.point.x t.point.x f.x g.x d.0 k;
            y = bits-same s.point.y t.point.y f.y g.y d.1 k;
            z = bits-same s.point.z t.point.z f.z g.z b.1 k;
          };
      index = eqb-true s.index t.index a.1 k;
    }

pub slots_same : (ss ts : List Slot) → ((s : Slot) → Memᴰ s ss → Fitting s.point) → ((t : Slot) → Memᴰ t ts → Fitting t.point)
    → same_slots ss ts ≡ true → ss ≡ ts
unfolding same_slots
slots_same [] [] f g e = refl
slots_same [] (t ∷ ts) f g e = absurd (subst T (sym e) tt)
slots_same (s ∷ ss) [] f g e = absurd (subst T (sym e) tt)
slots_same (s ∷ ss) (t ∷ ts) f g e =
    let b = both (same_slot s t) (same_slots ss ts) e in
    ap₂ (λ (u : Slot) (v : List Slot). u ∷ v) (slot_same s t (f s (Memᴰ.head refl)) (g t (Memᴰ.head refl)) b.0)
    (slots_same ss ts (λ u m. f u (Memᴰ.tail m)) (λ u m. g u (Memᴰ.tail m)) b.1)

same-slots : (ss : List Slot) → same_slots ss ss ≡ true
unfolding same_slots
same-slots [] = refl
same-slots (s ∷ ss) =
    rw (bits-refl s.point.x, bits-refl s.point.y, bits-refl s.point.z, eq-eqb s.index s.index refl) (same-slots ss)

-- ---- every number of a lent list fits

abbrev pub AllFit : List Float → Type 0
AllFit l = (i : ℕ) → T (fits binary32 (get_or l i nan))

fit-point : (l : List Float) (i : ℕ) → AllFit l → Fitting (point_at l i)
fit-point l i f = record { x = f (3 * i); y = f (3 * i + 1); z = f (3 * i + 2) }

fit-slots : (coords : List Float) (indices : List ℕ) → AllFit coords → (s : Slot) → Memᴰ s (slots coords indices) → Fitting s.point
unfolding slots
fit-slots coords [] f s m = absurd (Memᴰ.not-nil m)
fit-slots coords (i ∷ indices) f s (Memᴰ.head e) = subst (λ (u : Slot). Fitting u.point) (sym e) (fit-point coords 0 f)
fit-slots coords (i ∷ indices) f s (Memᴰ.tail m) =
    fit-slots (drop 3 coords) indices (λ k. subst (λ (x : Float). T (fits binary32 x)) (sym (get_or-drop 3 coords k nan)) (f (3 + k))) s m

fit-tree : (cloud : List Float) → AllFit cloud → (s : Slot) → Memᴰ s (laid (tree_of cloud)) → Fitting s.point
fit-tree cloud f s m = subst Fitting (sym (tree_of-is cloud s m).point) (fit-point cloud s.index f)

-- ---- yes and no

module _ (cloud coords : List Float) (indices : List ℕ) (whole : length cloud % 3 ≡ 0) (even : length coords ≡ 3 * length indices)
    (few : count cloud ≤ most_points) (room : length indices ≤ most_points)
  where
    says : (b : Bool) → same_slots (slots coords indices) (laid (tree_of cloud)) ≡ b → gives b ≡ checking cloud coords indices
    says b e =
        rw (eq-eqb (length cloud % 3) 0 whole, eq-eqb (length coords) (3 * length indices) even, le-ltb most_points (count cloud) few, le-ltb most_points (length indices) room)
        (ap gives (sym e))

    tree-yes : length (indexed cloud) ≡ length indices → ((k : ℕ) → k < count cloud → Found cloud coords indices k)
        → gives true ≡ checking cloud coords indices
    unfolding Found
    tree-yes e h =
        says true (rw same (same-slots (laid (tree_of cloud))))
      where
        reached : (s : Slot) → Memᴰ s (indexed cloud) → Reached 0 s (lent coords indices)
        reached s m =
            let i = indexed-is cloud s m in
            rw (indexed-slot cloud s m) (h s.index i.within (ap finite_point (sym i.point) ∙ i.finite))

        same : slots coords indices ≡ laid (tree_of cloud)
        same = sym (lent_laid coords indices) ∙ ap laid (all-reached cloud coords indices few (sym e) reached)

    module _ (f : AllFit cloud) (g : AllFit coords) where
      -- what else would be the case
      else-no : (slots coords indices ≡ laid (tree_of cloud) → ⊥) → gives false ≡ checking cloud coords indices
      else-no h = says false (go (same_slots (slots coords indices) (laid (tree_of cloud))) refl)
        where
          go : (b : Bool) → same_slots (slots coords indices) (laid (tree_of cloud)) ≡ b → same_slots (slots coords indices) (laid (tree_of cloud)) ≡ false
          go true q = absurd (h (slots_same (slots coords indices) (laid (tree_of cloud)) (fit-slots coords indices g) (fit-tree cloud f) q))
          go false q = q

      pub count_no : (length (indexed cloud) ≡ length indices → ⊥) → gives false ≡ checking cloud coords indices
      count_no h = else-no (λ e. h (sym (tree_of-length cloud) ∙ ap length (sym e) ∙ slots_length coords indices))

      found-no : (((k : ℕ) → k < count cloud → Found cloud coords indices k) → ⊥) → gives false ≡ checking cloud coords indices
      unfolding Found
      found-no h =
          else-no
          (λ e. h (λ k b fin. tree-reached cloud coords indices few (lent-tree cloud coords indices e) (slot_of cloud k) (indexed-has cloud k b fin)))

      -- whether every indexed point is found
      pub told : length (indexed cloud) ≡ length indices → (b : Bool) → Decides b ((k : ℕ) → k < count cloud → Found cloud coords indices k)
          → gives b ≡ checking cloud coords indices
      told e true h = tree-yes e h
      told e false h = found-no h
