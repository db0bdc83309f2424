-- Two results that an entry's contract allows are the same; and demand 2 alone fixes the answer, so that it leaves no room for a wrong one. Assumes nothing.
use mathlib.Core.Path.{◌≡◌, refl, sym, ap, ap₂, ◌∙◌, subst}
use mathlib.Core.Logic.{◌⊎◌, inl, inr}
use mathlib.Core.Bool.{Bool, true, false}
use mathlib.Core.List.Memᴰ
use mathlib.Core.List.{List, [], ◌∷◌, ◌++◌, Memᴰ}
use Prim.Native.Nat.{ℕ}
use lib.Dec.{T, not_T}
use lib.Ieee.{Float, lt, le}
use lib.Ieee.Bits.{is_true}
use Rattle.bits.proofs.Compare.{number, lt-number-l, le_of_not_lt}
use Rattle.space.specs.declared.Point3f.{Point3f}
use Rattle.space.specs.Distance.{distance_squared}
use Rattle.std.proofs.Common.{Result}
use Rattle.tree.specs.Slots.{Slot}
use Rattle.tree.specs.Refusal.{outcome_of}
use Rattle.tree.specs.declared.Refusal.{Refusal}
use Rattle.tree.proofs.Outcomes.{outcome-tells}
use Rattle.search.specs.Search.{bounded, unbounded}
use Rattle.search.specs.Demands.{NoneBelow, FirstLeast, LeastBelow, Demand2}
use Rattle.search.specs.declared.Nearest.{Nearest}
use Rattle.search.specs.declared.Nearest.TheVariants.{Found, Nothing}
use Rattle.search.proofs.Best.{is_T, yes-no}
use Rattle.search.proofs.Demand2.{none_more}

pub bounded-determined : (coords : List Float) (indices : List ℕ) (q : Point3f) (bound : Float) (seed : Nearest) (r s : Result Nearest Refusal)
    → outcome_of r ≡ bounded coords indices q bound seed → outcome_of s ≡ bounded coords indices q bound seed → r ≡ s
bounded-determined coords indices q bound seed r s a b = outcome-tells r s (a ∙ sym b)

pub unbounded-determined : (coords : List Float) (indices : List ℕ) (q : Point3f) (r s : Result Nearest Refusal)
    → outcome_of r ≡ unbounded coords indices q → outcome_of s ≡ unbounded coords indices q → r ≡ s
unbounded-determined coords indices q r s a b = outcome-tells r s (a ∙ sym b)

-- ---- demand 2 alone fixes the answer

-- of two places in a list, either one stands before the other, or they are the same
places : (before : List Slot) (s : Slot) (after : List Slot) (others : List Slot) (t : Slot) (rest : List Slot) → before ++ s ∷ after ≡ others ++ t ∷ rest
    → Memᴰ s others ⊎ Memᴰ t before ⊎ (s ≡ t)
places [] s after [] t rest e = inr (inr (cc))
places [] s after (o ∷ others) t rest e = let h : s ≡ o = cc in inl (Memᴰ.head h)
places (b ∷ before) s after [] t rest e = let h : t ≡ b = cc in inr (inl (Memᴰ.head h))
places (b ∷ before) s after (o ∷ others) t rest e = let h : before ++ s ∷ after ≡ others ++ t ∷ rest = cc in go (places before s after others t rest h)
  where
    go : Memᴰ s others ⊎ Memᴰ t before ⊎ (s ≡ t) → Memᴰ s (o ∷ others) ⊎ Memᴰ t (b ∷ before) ⊎ (s ≡ t)
    go (inl m) = inl (Memᴰ.tail m)
    go (inr (inl m)) = inr (inl (Memᴰ.tail m))
    go (inr (inr k)) = inr (inr k)

module _ (q : Point3f) (near-first : List Slot) (bound : Float) where
  found_in : (i : ℕ) (d : Float) (f : FirstLeast q near-first bound i d) → Memᴰ f.found near-first
  found_in i d f = subst (Memᴰ f.found) (sym f.in_order) (Memᴰ.append_right f.before (Memᴰ.head refl))

  number_of : (i : ℕ) (d : Float) → FirstLeast q near-first bound i d → T (number d)
  number_of i d f = lt-number-l d bound (is_T (lt d bound) f.below)

  -- neither is below the other, so each is at most the other
  at_most : (i : ℕ) (d : Float) (f : FirstLeast q near-first bound i d) (j : ℕ) (e : Float) (g : FirstLeast q near-first bound j e) → T (le d e)
  at_most i d f j e g =
      le_of_not_lt e d (number_of j e g) (number_of i d f)
      (not_T (lt e d) (λ t. yes-no (is_true (lt e d) t) (ap (λ (x : Float). lt x d) (sym g.distance) ∙ f.least g.found (found_in j e g))))

  -- one does not stand before the other
  not-before : (i : ℕ) (d : Float) (f : FirstLeast q near-first bound i d) (j : ℕ) (e : Float) (g : FirstLeast q near-first bound j e) → Memᴰ f.found g.before → ⊥
  not-before i d f j e g m = yes-no (is_true (le d e) (at_most i d f j e g)) (ap (λ (x : Float). le x e) (sym f.distance) ∙ g.first f.found m)

  same-found : (i : ℕ) (d : Float) (f : FirstLeast q near-first bound i d) (j : ℕ) (e : Float) (g : FirstLeast q near-first bound j e) → Found i d ≡ Found j e
  same-found i d f j e g = go (places f.before f.found f.after g.before g.found g.after (sym f.in_order ∙ g.in_order))
    where
      go : Memᴰ f.found g.before ⊎ Memᴰ g.found f.before ⊎ (f.found ≡ g.found) → Found i d ≡ Found j e
      go (inl m) = absurd (not-before i d f j e g m)
      go (inr (inl m)) = absurd (not-before j e g i d f m)
      go (inr (inr k)) =
          ap₂ Found (sym f.index ∙ ap (λ (s : Slot). s.index) k ∙ g.index)
          (sym f.distance ∙ ap (λ (s : Slot). distance_squared q s.point) k ∙ g.distance)

  pub least-determined : (a b : Nearest) → LeastBelow q near-first bound a → LeastBelow q near-first bound b → a ≡ b
  least-determined (Found i d) (Found j e) f g = same-found i d f j e g
  least-determined (Found i d) Nothing f g = absurd (yes-no (ap (λ (x : Float). lt x bound) f.distance ∙ f.below) (g f.found (found_in i d f)))
  least-determined Nothing (Found j e) f g = absurd (yes-no (ap (λ (x : Float). lt x bound) g.distance ∙ g.below) (f g.found (found_in j e g)))
  least-determined Nothing Nothing f g = refl

-- some slot is below, or none is
some_or_none : (q : Point3f) (ns : List Slot) (e : Float) → ((s : Slot) × Memᴰ s ns × (lt (distance_squared q s.point) e ≡ true)) ⊎ NoneBelow q ns e
some_or_none q [] e = inr (λ s m. absurd (Memᴰ.not-nil m))
some_or_none q (n ∷ ns) e = go (lt (distance_squared q n.point) e) refl (some_or_none q ns e)
  where
    go : (c : Bool) → lt (distance_squared q n.point) e ≡ c → ((s : Slot) × Memᴰ s ns × (lt (distance_squared q s.point) e ≡ true)) ⊎ NoneBelow q ns e
        → ((s : Slot) × Memᴰ s (n ∷ ns) × (lt (distance_squared q s.point) e ≡ true)) ⊎ NoneBelow q (n ∷ ns) e
    go true k r = inl (n, Memᴰ.head refl, k)
    go false k (inl r) = inl (r.0, Memᴰ.tail r.1, r.2)
    go false k (inr h) = inr (none_more q n ns e k h)

pub demand2-determined : (q : Point3f) (near-first : List Slot) (bound : Float) (seed a b : Nearest)
    → Demand2 q near-first bound seed a → Demand2 q near-first bound seed b → a ≡ b
demand2-determined q near-first bound Nothing a b f g = least-determined q near-first bound a b (f.unseeded refl) (g.unseeded refl)
demand2-determined q near-first bound (Found j e) a b f g = go (lt e bound) refl (some_or_none q near-first e)
  where
    go : (c : Bool) → lt e bound ≡ c → ((s : Slot) × Memᴰ s near-first × (lt (distance_squared q s.point) e ≡ true)) ⊎ NoneBelow q near-first e → a ≡ b
    go false k r = least-determined q near-first bound a b (f.dropped j e refl k) (g.dropped j e refl k)
    go true k (inl r) = least-determined q near-first e a b (f.gives_way j e refl k r.0 r.1 r.2) (g.gives_way j e refl k r.0 r.1 r.2)
    go true k (inr h) = f.stays j e refl k h ∙ sym (g.stays j e refl k h)
