-- How slots are told to be the tree of a cloud: as many as are indexed, and each indexed point reached from the root by its ranks. Assumes nothing.
use mathlib.Core.Path.{◌≡◌, refl, sym, ap, subst}
use mathlib.Core.Logic.{⊎_elim, ◌⊎◌, inl, inr, ◌↔◌}
use mathlib.Core.List.{List, ◌∷◌, ◌++◌}
use mathlib.Core.List.Memᴰ
use mathlib.Core.List.{Memᴰ}
use mathlib.Core.List.Permᴰ
use mathlib.Core.List.{Permᴰ}
use Prim.Native.Nat.{ℕ, ◌≤◌, ◌<◌}
use native.Mathlib.Nat.{le_of_lt}
use native.Mathlib.Omega.{arith}
use lib.ListN.{length}
use lib.Ieee.{Float}
use Rattle.tree.specs.Refuse.{count, most_points}
use Rattle.tree.specs.Slots.{Slot, rank, slots}
use Rattle.tree.specs.Part.{Part, empty, split, laid, lent}
use Rattle.tree.specs.Grow.{next_axis}
use Rattle.tree.specs.Cloud.{indexed, tree_of}
use Rattle.tree.proofs.Perm.{perm-mem, Distinct, pigeonhole, distinct-perm, distinct-left, distinct-right, distinct-sides}
use Rattle.tree.proofs.Sort.{side}
use Rattle.tree.proofs.Slots.{slots_length}
use Rattle.tree.proofs.Ordered.{Ordered}
use Rattle.tree.proofs.Grow.{Known, known-sub, known-perm, ranks-apart}
use Rattle.tree.proofs.Cloud.{indexed-known, indexed-distinct, tree_of-perm, tree_of-ordered, lent_laid, lent-unique}

-- s stands where its ranks lead: lower than a node to the left, higher to the right
unfoldable pub Reached : ℕ → Slot → Part → Type 0
Reached axis s empty = ⊥
Reached axis s (split n l r) =
    (s ≡ n) ⊎ (((rank axis s < rank axis n) × Reached (next_axis axis) s l) ⊎ ((rank axis n < rank axis s) × Reached (next_axis axis) s r))

-- ---- one step down

pub reached-empty : (axis : ℕ) (s : Slot) → Reached axis s empty → ⊥
unfolding Reached
reached-empty axis s m = m

pub reached-here : (axis : ℕ) (s n : Slot) (l r : Part) → rank axis s ≡ rank axis n → Reached axis s (split n l r) ↔ (s ≡ n)
unfolding Reached
reached-here axis s n l r e = (
  λ m.
      ⊎_elim (λ (f : s ≡ n). f)
      (λ k.
      ⊎_elim (λ (u : (rank axis s < rank axis n) × Reached (next_axis axis) s l). absurd (omega (arith, u.0)))
      (λ (u : (rank axis n < rank axis s) × Reached (next_axis axis) s r). absurd (omega (arith, u.0)))
      k)
      m,
  λ f. inl f,
)

pub reached-left : (axis : ℕ) (s n : Slot) (l r : Part) → rank axis s < rank axis n → Reached axis s (split n l r) ↔ Reached (next_axis axis) s l
unfolding Reached
reached-left axis s n l r h = (
  λ m.
      ⊎_elim (λ (f : s ≡ n). absurd (omega (arith, ap (rank axis) f)))
      (λ k.
      ⊎_elim (λ (u : (rank axis s < rank axis n) × Reached (next_axis axis) s l). u.1)
      (λ (u : (rank axis n < rank axis s) × Reached (next_axis axis) s r). absurd (omega (arith, u.0)))
      k)
      m,
  λ k. inr (inl (h, k)),
)

pub reached-right : (axis : ℕ) (s n : Slot) (l r : Part) → rank axis n < rank axis s → Reached axis s (split n l r) ↔ Reached (next_axis axis) s r
unfolding Reached
reached-right axis s n l r h = (
  λ m.
      ⊎_elim (λ (f : s ≡ n). absurd (omega (arith, ap (rank axis) f)))
      (λ k.
      ⊎_elim (λ (u : (rank axis s < rank axis n) × Reached (next_axis axis) s l). absurd (omega (arith, u.0)))
      (λ (u : (rank axis n < rank axis s) × Reached (next_axis axis) s r). u.1)
      k)
      m,
  λ k. inr (inr (h, k)),
)

-- ---- what is reached is there

pub reached-in : (axis : ℕ) (s : Slot) (t : Part) → Reached axis s t → Memᴰ s (laid t)
unfolding Reached laid
reached-in axis s empty m = absurd m
reached-in axis s (split n l r) m =
    ⊎_elim (λ (f : s ≡ n). Memᴰ.head f)
    (λ k.
    ⊎_elim
    (λ (u : (rank axis s < rank axis n) × Reached (next_axis axis) s l).
    Memᴰ.tail (Memᴰ.append_left (laid r) (reached-in (next_axis axis) s l u.1)))
    (λ (u : (rank axis n < rank axis s) × Reached (next_axis axis) s r).
    Memᴰ.tail (Memᴰ.append_right (laid l) (reached-in (next_axis axis) s r u.1)))
    k)
    m

-- ---- where all are reached, all is in order

pub reached-ordered : (axis : ℕ) (t : Part) → Distinct (λ s. s.index) (laid t) → ((s : Slot) → Memᴰ s (laid t) → Reached axis s t) → Ordered axis t
unfolding Ordered laid Distinct Reached
reached-ordered axis empty d h = tt
reached-ordered axis (split n l r) d h = (
  λ s m. le_of_lt (lefts s m).0,
  λ s m. le_of_lt (rights s m).0,
  reached-ordered (next_axis axis) l (distinct-left (λ s. s.index) (laid l) (laid r) d.1) (λ s m. (lefts s m).1),
  reached-ordered (next_axis axis) r (distinct-right (λ s. s.index) (laid l) (laid r) d.1) (λ s m. (rights s m).1),
)
  where
    lefts : (s : Slot) → Memᴰ s (laid l) → (rank axis s < rank axis n) × Reached (next_axis axis) s l
    lefts s m =
        ⊎_elim (λ (f : s ≡ n). absurd (d.0 s (Memᴰ.append_left (laid r) m) (ap (λ (u : Slot). u.index) (sym f))))
        (λ k.
        ⊎_elim (λ (u : (rank axis s < rank axis n) × Reached (next_axis axis) s l). u)
        (λ (u : (rank axis n < rank axis s) × Reached (next_axis axis) s r).
        absurd (distinct-sides (λ v. v.index) (laid l) (laid r) d.1 s m (reached-in (next_axis axis) s r u.1)))
        k)
        (h s (Memᴰ.tail (Memᴰ.append_left (laid r) m)))

    rights : (s : Slot) → Memᴰ s (laid r) → (rank axis n < rank axis s) × Reached (next_axis axis) s r
    rights s m =
        ⊎_elim (λ (f : s ≡ n). absurd (d.0 s (Memᴰ.append_right (laid l) m) (ap (λ (u : Slot). u.index) (sym f))))
        (λ k.
        ⊎_elim
        (λ (u : (rank axis s < rank axis n) × Reached (next_axis axis) s l).
        absurd (distinct-sides (λ v. v.index) (laid l) (laid r) d.1 s (reached-in (next_axis axis) s l u.1) m))
        (λ (u : (rank axis n < rank axis s) × Reached (next_axis axis) s r). u)
        k)
        (h s (Memᴰ.tail (Memᴰ.append_right (laid l) m)))

-- ---- and the other way round

pub ordered-reached : (axis : ℕ) (t : Part) → Known (laid t) → Ordered axis t → (s : Slot) → Memᴰ s (laid t) → Reached axis s t
unfolding Ordered laid Reached
ordered-reached axis empty k o s m = absurd (Memᴰ.not-nil m)
ordered-reached axis (split n l r) k o s m =
    ⊎_elim (λ (e : s ≡ n). inl e)
    (λ (u : Memᴰ s (laid l ++ laid r)).
    ⊎_elim (λ (v : Memᴰ s (laid l)). on-left v (ordered-reached (next_axis axis) l known-left o.2 s v))
    (λ (v : Memᴰ s (laid r)). on-right v (ordered-reached (next_axis axis) r known-right o.3 s v))
    (Memᴰ.append_cases (laid l) u))
    (Memᴰ.cases_cons m)
  where
    known-left : Known (laid l)
    known-left = known-sub (n ∷ laid l ++ laid r) (laid l) (λ u v. Memᴰ.tail (Memᴰ.append_left (laid r) v)) k

    known-right : Known (laid r)
    known-right = known-sub (n ∷ laid l ++ laid r) (laid r) (λ u v. Memᴰ.tail (Memᴰ.append_right (laid l) v)) k

    same : rank axis s ≡ rank axis n → s ≡ n
    same e = ranks-apart axis (n ∷ laid l ++ laid r) k s n m (Memᴰ.head refl) e

    on-left : Memᴰ s (laid l) → Reached (next_axis axis) s l → Reached axis s (split n l r)
    on-left v u =
        ⊎_elim (λ (h : rank axis n ≤ rank axis s). inl (same (omega (arith, o.0 s v)))) (λ (h : rank axis s < rank axis n). inr (inl (h, u)))
        (side (rank axis) n s)

    on-right : Memᴰ s (laid r) → Reached (next_axis axis) s r → Reached axis s (split n l r)
    on-right v u =
        ⊎_elim (λ (h : rank axis s ≤ rank axis n). inl (same (omega (arith, o.1 s v)))) (λ (h : rank axis n < rank axis s). inr (inr (h, u)))
        (side (rank axis) s n)

-- ---- the test of lent slots

module _ (cloud coords : List Float) (indices : List ℕ) (few : count cloud ≤ most_points) where
  pub all-reached : length indices ≡ length (indexed cloud) → ((s : Slot) → Memᴰ s (indexed cloud) → Reached 0 s (lent coords indices))
      → lent coords indices ≡ tree_of cloud
  all-reached e h =
      lent-unique cloud coords indices few (Permᴰ.symm perm)
      (reached-ordered 0 (lent coords indices)
      (subst (Distinct (λ s. s.index)) (sym (lent_laid coords indices)) (distinct-perm (λ s. s.index) perm (indexed-distinct cloud)))
      (λ s m. h s (perm-mem (Permᴰ.symm perm) (subst (Memᴰ s) (lent_laid coords indices) m))))
    where
      perm : Permᴰ (indexed cloud) (slots coords indices)
      perm =
          pigeonhole (λ s. s.index) (indexed cloud) (slots coords indices) (indexed-distinct cloud)
          (λ s m. subst (Memᴰ s) (lent_laid coords indices) (reached-in 0 s (lent coords indices) (h s m)))
          (omega (arith, slots_length coords indices))

  pub tree-reached : lent coords indices ≡ tree_of cloud → (s : Slot) → Memᴰ s (indexed cloud) → Reached 0 s (lent coords indices)
  tree-reached e s m =
      subst (Reached 0 s) (sym e)
      (ordered-reached 0 (tree_of cloud) (known-perm (Permᴰ.symm (tree_of-perm cloud)) (indexed-known cloud few)) (tree_of-ordered cloud) s
      (perm-mem (Permᴰ.symm (tree_of-perm cloud)) m))
