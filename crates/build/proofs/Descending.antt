-- The laws of looking for a point from the root of lent slots, and of counting the indexed ones. Assumes nothing.
use mathlib.Core.Path.{◌≡◌, refl, sym, ap, ap₂, ◌∙◌, subst, subst₂}
use mathlib.Core.Bool.{Bool, true, false, cond}
use mathlib.Core.Logic.{◌↔◌}
use mathlib.Core.List.{List, [], ◌∷◌, ◌++◌}
use Prim.Native.Nat.{ℕ, zero, suc, ◌+◌, ◌-◌, ◌/◌, ◌≤◌, ◌<◌}
use native.Mathlib.Omega.{arith}
use lib.Dec.{T, eqb}
use lib.ListN.{length, get_or, length-append}
use lib.Ieee.{Float, binary32, fits}
use borrow.Author.Tests.{eqb-true, eqb-false}
use Rattle.std.specs.Bool.{MatchBool}
use Rattle.std.specs.List.{filter, range_with_len, AllWithin, HoldsAt}
use Rattle.std.proofs.lemmas.List.Elements.{filter-append}
use Rattle.std.proofs.lemmas.List.FromFn.{length-range_with_len, get_or-range_with_len}
use Rattle.bits.specs.Key.{key}
use Rattle.bits.proofs.Keys.{key-inj}
use Rattle.tree.specs.Slots.{Slot, slot, point_at, none, slots, rank}
use Rattle.tree.specs.Part.{Part, split, lent}
use Rattle.tree.specs.Grow.{next_axis}
use Rattle.tree.specs.Cloud.{finite_point}
use Rattle.tree.specs.Refuse.{count}
use Rattle.tree.proofs.Slots.{slots_length, slots-get_or}
use Rattle.tree.proofs.Shape.{group, group-step, group-zero, group-all}
use Rattle.tree.proofs.Cloud.{up_to, if_finite, up_to-zero, up_to-suc}
use Rattle.tree.proofs.Descent.{Reached, reached-empty, reached-here, reached-left, reached-right}
use Rattle.select.specs.Order.{slot_of}
use Rattle.build.specs.Check.{Decides, Found}

-- ---- answers

pub decides-by : {P Q : Type 0} (b : Bool) → P ↔ Q → Decides b Q → Decides b P
decides-by true i d = i.1 d
decides-by false i d = λ p. d (i.0 p)

pub same_keys : (x y : Float) (a b : ℕ) → T (fits binary32 x) → T (fits binary32 y) → a ≡ key x → b ≡ key y → Decides (eqb a b) (x ≡ y)
same_keys x y a b f g e h = go (eqb a b) refl
  where
    go : (c : Bool) → eqb a b ≡ c → Decides c (x ≡ y)
    go true q = key-inj x y f g (sym e ∙ eqb-true a b q ∙ h)
    go false q = λ r. eqb-false a b q (e ∙ ap key r ∙ sym h)

-- ---- the way down

-- s is reached in the whole just if it is reached in a group that starts at start
pub record Descending (s : Slot) (coords : List Float) (indices : List ℕ) (start n axis : ℕ) : Type 0 where
  pub within : start + n ≤ length indices
  pub small : axis < 3
  pub same : Reached 0 s (lent coords indices) ↔ Reached axis s (group (slots coords indices) start n)

through : {A B C : Type 0} → A ↔ B → B ↔ C → A ↔ C
through i j = (λ a. j.0 (i.0 a), λ c. i.1 (j.1 c))

equal : {A B : Type 0} → A ≡ B → A ↔ B
equal {A} {B} e = (λ a. subst (λ (X : Type 0). X) e a, λ b. subst (λ (X : Type 0). X) (sym e) b)

module _ (s : Slot) (coords : List Float) (indices : List ℕ) where
  pub descending-start : Descending s coords indices 0 (length indices) 0
  unfolding lent
  descending-start =
      record {
        within = omega arith;
        small = omega arith;
        same = equal (ap (Reached 0 s) (sym (group-all (slots coords indices) (length indices) (slots_length coords indices))));
      }

  module _ (start n axis : ℕ) (g : Descending s coords indices start n axis) where
    pub descending-end : n ≤ 0 → Reached 0 s (lent coords indices) → ⊥
    descending-end h r =
        let e : n ≡ 0 = omega arith in
        reached-empty axis s
        (subst (Reached axis s) (ap (group (slots coords indices) start) e ∙ group-zero (slots coords indices) start) (g.same.0 r))

    module _ (more : 0 < n) where
      here : Slot
      here = slot (point_at coords start) (get_or indices start 0)

      left : Part
      left = group (slots coords indices) (start + 1) ((n - 1) / 2)

      right : Part
      right = group (slots coords indices) (start + 1 + (n - 1) / 2) (n - 1 - (n - 1) / 2)

      apart : group (slots coords indices) start n ≡ split here left right
      unfolding here left right
      apart =
          group-step (slots coords indices) start n none more (omega (arith, g.within, slots_length coords indices))
          ∙ ap (λ (u : Slot). split u (group (slots coords indices) (start + 1) ((n - 1) / 2)) (group (slots coords indices) (start + 1 + (n - 1) / 2) (n - 1 - (n - 1) / 2)))
          (slots-get_or coords indices start (omega (arith, g.within)))

      split-same : Reached 0 s (lent coords indices) ↔ Reached axis s (split here left right)
      split-same = through g.same (equal (ap (Reached axis s) apart))

      module _ (deeper : ℕ) (next : deeper ≡ next_axis axis) (low : deeper < 3) where
        pub descending-left : rank axis s < rank axis (slot (point_at coords start) (get_or indices start 0)) → Descending s coords indices (start + 1) ((n - 1) / 2) deeper
        unfolding here left
        descending-left h =
            record {
              within = omega (arith, g.within);
              small = low;
              same = through split-same (through (reached-left axis s here left right h) (equal (ap (λ (a : ℕ). Reached a s left) (sym next))));
            }

        pub descending-right : rank axis (slot (point_at coords start) (get_or indices start 0)) < rank axis s → Descending s coords indices (start + (1 + (n - 1) / 2)) (n - (1 + (n - 1) / 2)) deeper
        unfolding here right
        descending-right h =
            subst₂ (λ (a b : ℕ). Descending s coords indices a b deeper) (omega arith) (omega arith)
            (record {
              within = omega (arith, g.within);
              small = low;
              same = through split-same (through (reached-right axis s here left right h) (equal (ap (λ (a : ℕ). Reached a s right) (sym next))));
            })

      pub descending-here : rank axis s ≡ rank axis (slot (point_at coords start) (get_or indices start 0))
          → Reached 0 s (lent coords indices) ↔ (s ≡ slot (point_at coords start) (get_or indices start 0))
      unfolding here
      descending-here h = through split-same (reached-here axis s here left right h)

-- ---- one point, and all

module _ (cloud coords : List Float) (indices : List ℕ) (i : ℕ) where
  pub found-by : (b : Bool) → finite_point (point_at cloud i) ≡ true → Decides b (Reached 0 (slot_of cloud i) (lent coords indices)) → Decides b (Found cloud coords indices i)
  unfolding Found
  found-by true e d = λ h. d
  found-by false e d = λ h. d (h e)

  pub found-free : finite_point (point_at cloud i) ≡ false → Found cloud coords indices i
  unfolding Found
  found-free e h = absurd (subst (λ (b : Bool). T b) (sym h ∙ e) tt)

-- ---- how many are indexed

more-range : (a n j : ℕ) → a + n ≡ j → range_with_len a (suc n) ≡ range_with_len a n ++ j ∷ []
more-range a zero j e = ap (λ (u : ℕ). u ∷ []) (omega arith)
more-range a (suc n) j e = ap (λ (u : List ℕ). a ∷ u) (more-range (a + 1) n j (omega arith))

abbrev is_indexed : List Float → ℕ → Bool
is_indexed cloud i = finite_point (point_at cloud i)

one_more : (cloud : List Float) (i : ℕ) → length (filter (is_indexed cloud) (i ∷ [])) ≡ length (if_finite cloud i)
one_more cloud i = go (is_indexed cloud i)
  where
    go : (b : Bool) → length {A = ℕ} (cond b (i ∷ []) []) ≡ length (cond b (slot (point_at cloud i) i ∷ []) [])
    go true = refl
    go false = refl

pub counted : (cloud : List Float) (n : ℕ) → n ≤ count cloud → length (filter (λ i. finite_point (point_at cloud i)) (range_with_len 0 n)) ≡ length (up_to cloud n)
counted cloud zero h = ap length (sym (up_to-zero cloud))
counted cloud (suc n) h =
    let before = range_with_len 0 n in
    ap (λ (u : List ℕ). length (filter (is_indexed cloud) u)) (more-range 0 n n (omega arith))
    ∙ ap length (filter-append (is_indexed cloud) before (n ∷ []))
    ∙ length-append (filter (is_indexed cloud) before) (filter (is_indexed cloud) (n ∷ []))
    ∙ ap₂ (λ (a b : ℕ). a + b) (counted cloud n (omega arith)) (one_more cloud n)
    ∙ sym (ap length (up_to-suc cloud n h) ∙ length-append (up_to cloud n) (if_finite cloud n))

-- what is asked of every number below n
pub all-decided : (P : ℕ → Type 0) (n : ℕ) (r : Bool)
    → MatchBool r (AllWithin P (range_with_len 0 n) 0 (length (range_with_len 0 n))) ((k : ℕ) × (k < length (range_with_len 0 n)) × HoldsAt (λ i. P i → ⊥) (range_with_len 0 n) k)
    → Decides r ((k : ℕ) → k < n → P k)
all-decided P n true h =
    λ k b.
    let e : get_or (range_with_len 0 n) k 0 ≡ k = omega (arith, get_or-range_with_len 0 n k 0 b) in
    subst P e (h k 0 (omega arith) (omega (arith, length-range_with_len 0 n)))
all-decided P n false w =
    λ h.
    let b : w.0 < n = omega (arith, w.1, length-range_with_len 0 n) in
    let e : get_or (range_with_len 0 n) w.0 0 ≡ w.0 = omega (arith, get_or-range_with_len 0 n w.0 0 b) in
    w.2 0 (subst P (sym e) (h w.0 b))
