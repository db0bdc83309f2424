-- k nearest looks at every slot: taken one by one, the entries held are always the first k of the stable sort of those below infinity. Assumes nothing.
use mathlib.Core.Path.{◌≡◌, refl, sym, ap, ◌∙◌, subst}
use mathlib.Core.Bool.{Bool, true, false, cond}
use mathlib.Core.Logic.{⊎_elim, ◌↔◌}
use mathlib.Core.List.{List, [], ◌∷◌, ◌++◌, map, append_assoc, append-nil}
use mathlib.Core.List.Memᴰ
use mathlib.Core.List.{Memᴰ}
use Prim.Native.Nat.{ℕ, zero, suc, ◌≤◌, ◌<◌}
use native.Mathlib.Nat.{le_of_suc-le-suc, not-suc-le-zero, le_trans as ℕ-le-trans}
use native.Mathlib.Omega.{arith}
use lib.Dec.{T, ltb}
use lib.ListN.{length, take, drop, get_or, take-append-drop}
use lib.Seq.{length-take-le}
use lib.Ieee.{binary32, fits, lt}
use lib.Ieee.Bits.{is_true}
use borrow.Author.Tests.{lt-ltb, le-ltb, ltb-true, ltb-false}
use Rattle.bits.specs.Constants.{infinite}
use Rattle.bits.specs.Key.{key}
use Rattle.bits.proofs.Compare.{number, plus, highest, lt-number-l, lt-le-trans}
use Rattle.bits.proofs.Keys.{key-lt}
use Rattle.space.specs.declared.Point3f.{Point3f}
use Rattle.tree.specs.Slots.{Slot}
use Rattle.tree.specs.Sort.{sort}
use Rattle.tree.specs.Walk.{each}
use Rattle.tree.proofs.Perm.{perm-mem}
use Rattle.tree.proofs.Sort.{Sorted, side, sort-perm, sort_sorted}
use Rattle.tree.proofs.Stable.{insert_after, after-here, after-past, sort-snoc, take_after, held-idle}
use Rattle.lists.specs.Entry.{Entry, entry, far, keep}
use Rattle.lists.specs.KNearest.{place, kth, offer, below_infinity}

-- a distance that compares as its number does: an f32 with its sign clear, and no NaN
pub record Good (e : Entry) : Type 0 where
  pub held : T (fits binary32 e.distance)
  pub clear : T (plus e.distance)
  pub number : T (number e.distance)

abbrev pub AllGood : List Entry → Type 0
AllGood es = (e : Entry) → Memᴰ e es → Good e

pub T_true : (b : Bool) → b ≡ true → T b
T_true b e = subst T (sym e) tt

pub lt-far : (e f : Entry) → Good e → Good f → lt e.distance f.distance ≡ ltb (far e) (far f)
unfolding far
lt-far e f g h = go (lt e.distance f.distance) refl
  where
    law : T (lt e.distance f.distance) ↔ (key e.distance < key f.distance)
    law = key-lt e.distance f.distance g.held h.held g.clear h.clear g.number h.number

    go : (b : Bool) → lt e.distance f.distance ≡ b → b ≡ ltb (key e.distance) (key f.distance)
    go true p = sym (lt-ltb (key e.distance) (key f.distance) (law.0 (subst T (sym p) tt)))
    go false p = pick (ltb (key e.distance) (key f.distance)) refl
      where
        pick : (c : Bool) → ltb (key e.distance) (key f.distance) ≡ c → false ≡ c
        pick true r = absurd (subst T p (law.1 (ltb-true (key e.distance) (key f.distance) r)))
        pick false r = refl

-- among good entries a place by distance is one by number
pub place_after : (e : Entry) (es : List Entry) → Good e → AllGood es → place e es ≡ insert_after far e es
unfolding place insert_after
place_after e [] g h = refl
place_after e (f ∷ es) g h =
    ⊎_elim
    (λ (p : far f ≤ far e).
    by (le-ltb (far e) (far f) p)
    ∙ ap (λ (r : List Entry). f ∷ r) (place_after e es g (λ x m. h x (Memᴰ.tail m)))
    ∙ sym (after-past far e f es p))
    (λ (p : far e < far f). by (lt-ltb (far e) (far f) p) ∙ sym (after-here far e f es p))
    (side far f e)
  where
    by : {b : Bool} → ltb (far e) (far f) ≡ b → place e (f ∷ es) ≡ cond b (e ∷ f ∷ es) (f ∷ place e es)
    by r = ap (λ (b : Bool). cond b (e ∷ f ∷ es) (f ∷ place e es)) (lt-far e f g (h f (Memᴰ.head refl)) ∙ r)

pub get_or-mem : {A : Type 0} (l : List A) (i : ℕ) (d : A) → i < length l → Memᴰ (get_or l i d) l
get_or-mem [] i d h = absurd (not-suc-le-zero h)
get_or-mem (x ∷ l) zero d h = Memᴰ.head refl
get_or-mem (x ∷ l) (suc i) d h = Memᴰ.tail (get_or-mem l i d (le_of_suc-le-suc h))

pub sorted-at : {A : Type 0} (code : A → ℕ) (l : List A) → Sorted code l → (i j : ℕ) (d : A) → i ≤ j → j < length l → code (get_or l i d) ≤ code (get_or l j d)
unfolding Sorted
sorted-at code [] s i j d h k = absurd (not-suc-le-zero k)
sorted-at code (x ∷ l) s zero zero d h k = omega arith
sorted-at code (x ∷ l) s zero (suc j) d h k = s.0 (get_or l j d) (get_or-mem l j d (le_of_suc-le-suc k))
sorted-at code (x ∷ l) s (suc i) zero d h k = absurd (not-suc-le-zero h)
sorted-at code (x ∷ l) s (suc i) (suc j) d h k = sorted-at code l s.1 i j d (le_of_suc-le-suc h) (le_of_suc-le-suc k)

-- of the first, the last has the highest number
sorted-under : {A : Type 0} (code : A → ℕ) (l : List A) → Sorted code l → (j : ℕ) (d : A) → j < length l → (t : A) → Memᴰ t (take (suc j) l) → code t ≤ code (get_or l j d)
unfolding Sorted
sorted-under code [] s j d h t m = absurd (not-suc-le-zero h)
sorted-under code (x ∷ l) s zero d h t m = ⊎_elim (λ (e : t ≡ x). omega (arith, ap code e)) (λ r. absurd (Memᴰ.not-nil r)) (Memᴰ.cases_cons m)
sorted-under code (x ∷ l) s (suc j) d h t m =
    ⊎_elim (λ (e : t ≡ x). omega (arith, ap code e, s.0 (get_or l j d) (get_or-mem l j d (le_of_suc-le-suc h))))
    (λ r. sorted-under code l s.1 j d (le_of_suc-le-suc h) t r)
    (Memᴰ.cases_cons m)

pub mem-first : {A : Type 0} {x : A} (k : ℕ) (l : List A) → Memᴰ x (take k l) → Memᴰ x l
mem-first {x = x} k l m = subst (Memᴰ x) (take-append-drop k l) (Memᴰ.append_left (drop k l) m)

-- the k-th distance of the first k
pub kth-at : (j : ℕ) (es : List Entry) (d : Entry) → j < length es → kth (suc j) (take (suc j) es) ≡ (get_or es j d).distance
unfolding kth
kth-at j [] d h = absurd (not-suc-le-zero h)
kth-at zero (e ∷ es) d h = refl
kth-at (suc j) (e ∷ es) d h = kth-at j es d (le_of_suc-le-suc h)

pub kth-none : (j : ℕ) (es : List Entry) → length es ≤ j → kth (suc j) (take (suc j) es) ≡ infinite
unfolding kth
kth-none j [] h = refl
kth-none zero (e ∷ es) h = absurd (not-suc-le-zero h)
kth-none (suc j) (e ∷ es) h = kth-none j es (le_of_suc-le-suc h)

kth-zero : (es : List Entry) → kth 0 es ≡ infinite
unfolding kth
kth-zero es = refl

-- ---- one entry more

module _ (k : ℕ) (q : Point3f) (n : Slot) (P : List Entry) (good : AllGood P) (clear : T (plus (entry q n).distance)) (held : T (fits binary32 (entry q n).distance)) where
  abbrev S : List Entry
  S = sort far P

  S-good : AllGood S
  S-good e m = good e (perm-mem (sort-perm far P) m)

  abbrev e : Entry
  e = entry q n

  pub e-good : below_infinity e ≡ true → Good e
  unfolding below_infinity
  e-good b = record { held = held; clear = clear; number = lt-number-l (entry q n).distance infinite (T_true _ b) }

  -- what is below the k-th distance held is below infinity
  pub kth-number : T (number (kth k (take k S)))
  kth-number = go k refl
    where
      go : (j : ℕ) → k ≡ j → T (number (kth j (take j S)))
      go zero p = rw (kth-zero (take 0 S)) tt
      go (suc j) p = pick (ltb j (length S)) refl
        where
          pick : (b : Bool) → ltb j (length S) ≡ b → T (number (kth (suc j) (take (suc j) S)))
          pick true r = rw (kth-at j S e (ltb-true j (length S) r)) (S-good (get_or S j e) (get_or-mem S j e (ltb-true j (length S) r))).number
          pick false r = rw (kth-none j S (ltb-false j (length S) r)) tt

  pub below-kth : lt e.distance (kth k (take k S)) ≡ true → below_infinity e ≡ true
  unfolding below_infinity
  below-kth h = is_true _ (lt-le-trans e.distance (kth k (take k S)) infinite (T_true _ h) (highest (kth k (take k S)) kth-number))

  -- taken: the first k of the sort with it
  taken : below_infinity e ≡ true → take k (place e (take k S)) ≡ take k (insert_after far e S)
  taken b = ap (take k) (place_after e (take k S) (e-good b) (λ x m. S-good x (mem-first k S m))) ∙ take_after far k e S

  -- what comes after the first does not change them
  take_past : (j : ℕ) → j ≤ length S → ((t : Entry) → Memᴰ t (take j S) → far t ≤ far e) → take j (insert_after far e S) ≡ take j S
  take_past j h f =
      sym (take_after far j e S)
      ∙ ap (λ (i : ℕ). take i (insert_after far e (take j S))) (sym (length-take-le j S h))
      ∙ held-idle far e (take j S) f

  -- not taken, though below infinity: k are held, none of them farther
  passed : below_infinity e ≡ true → lt e.distance (kth k (take k S)) ≡ false → take k S ≡ take k (insert_after far e S)
  unfolding below_infinity
  passed b h = go k refl
    where
      go : (j : ℕ) → k ≡ j → take j S ≡ take j (insert_after far e S)
      go zero p = refl
      go (suc j) p = pick (ltb j (length S)) refl
        where
          h' : lt e.distance (kth (suc j) (take (suc j) S)) ≡ false
          h' = subst (λ (i : ℕ). lt e.distance (kth i (take i S)) ≡ false) p h

          pick : (c : Bool) → ltb j (length S) ≡ c → take (suc j) S ≡ take (suc j) (insert_after far e S)
          pick true r =
              let l : j < length S = ltb-true j (length S) r in
              let g = S-good (get_or S j e) (get_or-mem S j e l) in
              let w : lt e.distance (get_or S j e).distance ≡ false = ap (lt e.distance) (sym (kth-at j S e l)) ∙ h' in
              let v : far (get_or S j e) ≤ far e = ltb-false (far e) (far (get_or S j e)) (sym (lt-far e (get_or S j e) (e-good b) g) ∙ w) in
              sym (take_past (suc j) l (λ t m. ℕ-le-trans (sorted-under far S sorted j e l t m) v))
            where
              sorted : Sorted far S
              sorted = sort_sorted far P
          pick false r = absurd (subst T (sym b ∙ ap (lt e.distance) (sym (kth-none j S (ltb-false j (length S) r))) ∙ h') tt)

  pub step : offer k q n (take k S) ≡ cond (below_infinity e) (take k (insert_after far e S)) (take k S)
  unfolding offer
  step = go (below_infinity e) (lt e.distance (kth k (take k S))) refl refl
    where
      go : (b c : Bool) → below_infinity e ≡ b → lt e.distance (kth k (take k S)) ≡ c
          → cond c (take k (place e (take k S))) (take k S) ≡ cond b (take k (insert_after far e S)) (take k S)
      go true true p r = taken p
      go true false p r = passed p r
      go false true p r = absurd (subst T (sym (below-kth r) ∙ p) tt)
      go false false p r = refl

-- ---- all entries

module _ (k : ℕ) (q : Point3f) where
  -- every distance is an f32 with its sign clear
  abbrev Clear : Type 0
  Clear = (n : Slot) → T (plus (entry q n).distance) × T (fits binary32 (entry q n).distance)

  all_from : Clear → (ns : List Slot) (P : List Entry) → AllGood P
      → each (offer k q) ns (take k (sort far P)) ≡ take k (sort far (P ++ keep below_infinity (map (entry q) ns)))
  unfolding each keep below_infinity
  all_from c [] P g = ap (λ (l : List Entry). take k (sort far l)) (sym (append-nil P))
  all_from c (n ∷ ns) P g =
      ap (each (offer k q) ns) (step k q n P g (c n).0 (c n).1)
      ∙ go (all_from c ns) (below_infinity (entry q n)) refl
    where
      rest : List Entry
      rest = keep below_infinity (map (entry q) ns)

      Rest : Type 0
      Rest = (Q : List Entry) → AllGood Q → each (offer k q) ns (take k (sort far Q)) ≡ take k (sort far (Q ++ rest))

      go : Rest → (b : Bool) → below_infinity (entry q n) ≡ b
          → each (offer k q) ns (cond b (take k (insert_after far (entry q n) (sort far P))) (take k (sort far P)))
          ≡ take k (sort far (P ++ cond b (entry q n ∷ rest) rest))
      go ih true p =
          ap (λ (l : List Entry). each (offer k q) ns (take k l)) (sym (sort-snoc far P (entry q n)))
          ∙ ih (P ++ (entry q n ∷ [])) more
          ∙ ap (λ (l : List Entry). take k (sort far l)) (append_assoc P (entry q n ∷ []) rest)
        where
          more : AllGood (P ++ (entry q n ∷ []))
          more x m = ⊎_elim (g x) (λ r. ⊎_elim (λ t. subst Good (sym t) (e-good k q n P g (c n).0 (c n).1 p)) (λ t. absurd (Memᴰ.not-nil t)) (Memᴰ.cases_cons r)) (Memᴰ.append_cases P m)
      go ih false p = ih P g

  -- "The first k of all .. with distance below infinity, ordered by squared distance", ties in the order in which they are looked at
  pub k-all : Clear → (ns : List Slot) → each (offer k q) ns [] ≡ take k (sort far (keep below_infinity (map (entry q) ns)))
  unfolding sort
  k-all c ns = ap (each (offer k q) ns) (none k) ∙ all_from c ns [] (λ x m. absurd (Memᴰ.not-nil m))
    where
      none : (j : ℕ) → ◌≡◌ {A = List Entry} [] (take j [])
      none zero = refl
      none (suc j) = refl
