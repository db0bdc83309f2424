-- The laws of gathering the finite points of a cloud, point by point. Assumes nothing.
use mathlib.Core.Path.{◌≡◌, refl, sym, ap, ap₂, ◌∙◌}
use mathlib.Core.Bool.{Bool, true, false, cond}
use mathlib.Core.List.{List, [], ◌∷◌, ◌++◌, append-nil}
use mathlib.Core.List.Memᴰ
use mathlib.Core.List.{Memᴰ}
use Prim.Native.Nat.{ℕ, ◌+◌, ◌-◌, ◌*◌, ◌≤◌, ◌<◌}
use native.Mathlib.Numerals.{add-one}
use native.Mathlib.Omega.{arith}
use lib.ListN.{length, take, drop, set, length-append}
use lib.Seq.{take-suc-set, drop-set-lt, drop-drop}
use lib.Ieee.{Float}
use Rattle.tree.specs.Slots.{Slot, slot, point_at, indices_of}
use Rattle.tree.specs.Cloud.{finite_point, indexed}
use Rattle.tree.specs.Refuse.{count, most_points}
use Rattle.tree.proofs.Slots.{indices-append}
use Rattle.tree.proofs.Cloud.{up_to, if_finite, up_to-zero, up_to-suc, up_to-all, up_to-length, Indexed, indexed-slot}
use Rattle.select.specs.Order.{slots_of, Inside}
use Rattle.build.specs.Gather.{Gathered}

-- ---- the loop: where it stands after i points

pub record Gathering (cloud : List Float) (i m : ℕ) (l l' : List ℕ) : Type 0 where
  pub count : m ≡ length (up_to cloud i)
  pub front : take m l' ≡ indices_of (up_to cloud i)
  pub rest : drop m l' ≡ drop m l

pub gathering-start : (cloud : List Float) (l : List ℕ) → Gathering cloud 0 0 l l
unfolding indices_of
gathering-start cloud l = record { count = sym (ap length (up_to-zero cloud)); front = sym (ap indices_of (up_to-zero cloud)); rest = refl }

pub gathering-few : (cloud : List Float) (i m : ℕ) (l l' : List ℕ) → Gathering cloud i m l l' → m ≤ i
gathering-few cloud i m l l' g = omega (arith, g.count, up_to-length cloud i)

further : {A : Type 0} (a b : ℕ) (l l' : List A) → a ≤ b → drop a l ≡ drop a l' → drop b l ≡ drop b l'
further {A} a b l l' h e =
    let q : a + (b - a) ≡ b = omega arith in
    ap (λ (n : ℕ). drop n l) (sym q)
    ∙ sym (drop-drop (b - a) a l)
    ∙ ap (λ (u : List A). drop (b - a) u) e
    ∙ drop-drop (b - a) a l'
    ∙ ap (λ (n : ℕ). drop n l') q

module _ (cloud : List Float) (i m : ℕ) (l l1 : List ℕ) (more : i < count cloud) (room : m < length l1) (g : Gathering cloud i m l l1) where
  grown : up_to cloud (i + 1) ≡ up_to cloud i ++ if_finite cloud i
  grown = ap (up_to cloud) (add-one i) ∙ up_to-suc cloud i more

  with_it : (b : Bool) → finite_point (point_at cloud i) ≡ b → up_to cloud (i + 1) ≡ up_to cloud i ++ cond b (slot (point_at cloud i) i ∷ []) []
  with_it b e = grown ∙ ap (λ (c : Bool). up_to cloud i ++ cond c (slot (point_at cloud i) i ∷ []) []) e

  pub gathering-yes : finite_point (point_at cloud i) ≡ true → Gathering cloud (i + 1) (m + 1) l (set l1 m i)
  unfolding indices_of
  gathering-yes e =
      record {
        count = omega (arith, g.count, ap length (with_it true e), length-append (up_to cloud i) (slot (point_at cloud i) i ∷ []));
        front =
            ap (λ (n : ℕ). take n (set l1 m i)) (add-one m)
            ∙ take-suc-set l1 m i room
            ∙ ap (λ (u : List ℕ). u ++ (i ∷ [])) g.front
            ∙ sym (ap indices_of (with_it true e) ∙ indices-append (up_to cloud i) (slot (point_at cloud i) i ∷ []));
        rest = drop-set-lt (m + 1) l1 m i (omega arith) ∙ further m (m + 1) l1 l (omega arith) g.rest;
      }

  pub gathering-no : finite_point (point_at cloud i) ≡ false → Gathering cloud (i + 1) m l l1
  gathering-no e =
      let same : up_to cloud (i + 1) ≡ up_to cloud i = with_it false e ∙ append-nil (up_to cloud i) in
      record { count = g.count ∙ ap length (sym same); front = g.front ∙ ap indices_of (sym same); rest = g.rest }

pub gathering-end : (cloud : List Float) (i m : ℕ) (l l' : List ℕ) → count cloud ≤ i → Gathering cloud i m l l' → Gathered cloud m l l'
gathering-end cloud i m l l' h g =
    let e : up_to cloud i ≡ indexed cloud = up_to-all cloud i h in
    record { count = g.count ∙ ap length e; front = g.front ∙ ap indices_of e; rest = g.rest }

-- ---- what is gathered

indices-mem : (ss : List Slot) (i : ℕ) → Memᴰ i (indices_of ss) → (s : Slot) × Memᴰ s ss × (i ≡ s.index)
unfolding indices_of
indices-mem [] i m = absurd (Memᴰ.not-nil m)
indices-mem (s ∷ ss) i (Memᴰ.head e) = (s, Memᴰ.head refl, e)
indices-mem (s ∷ ss) i (Memᴰ.tail m) = let p = indices-mem ss i m in (p.0, Memᴰ.tail p.1, p.2)

pub indices_inside : (cloud : List Float) (ss : List Slot) → length cloud ≤ 3 * most_points → ((s : Slot) → Memᴰ s ss → Indexed cloud s)
    → Inside cloud (indices_of ss)
indices_inside cloud ss h k =
    record { few = h; each = λ i m. let p = indices-mem ss i m in omega (arith, p.2, (k p.0 p.1).within) }

slots_of-indices : (cloud : List Float) (ss : List Slot) → ((s : Slot) → Memᴰ s ss → s ≡ slot (point_at cloud s.index) s.index)
    → slots_of cloud (indices_of ss) ≡ ss
unfolding indices_of
slots_of-indices cloud [] h = refl
slots_of-indices cloud (s ∷ ss) h =
    ap₂ (λ (a : Slot) (u : List Slot). a ∷ u) (sym (h s (Memᴰ.head refl))) (slots_of-indices cloud ss (λ t m. h t (Memᴰ.tail m)))

pub slots_of-indexed : (cloud : List Float) → slots_of cloud (indices_of (indexed cloud)) ≡ indexed cloud
slots_of-indexed cloud = slots_of-indices cloud (indexed cloud) (indexed-slot cloud)
