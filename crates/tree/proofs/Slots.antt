-- Laws of `slots`: its length, its elements, its parts and its seams, and back to the flat lists. Assumes nothing.
use mathlib.Core.Path.{◌≡◌, refl, sym, ap, ap₂, ◌∙◌}
use mathlib.Core.List.{List, [], ◌∷◌, ◌++◌}
use Prim.Native.Nat.{ℕ, zero, suc, ◌+◌, ◌*◌, ◌≤◌, ◌<◌}
use native.Mathlib.Nat.{le_of_suc-le-suc, not-suc-le-zero}
use native.Mathlib.Omega.{arith}
use lib.ListN.{length, get_or, take, drop, set, length-take}
use lib.Seq.{drop-nil, get_or-drop}
use lib.Ieee.{Float, nan}
use Rattle.space.specs.declared.Point3f.{Point3f}
use Rattle.tree.specs.Slots.{Slot, slot, point_at, none, slots, numbers_of, indices_of}

thrice : (a : ℕ) → 3 * suc a ≡ suc (suc (suc (3 * a)))
thrice a = omega arith

pub slots_length : (cs : List Float) (is : List ℕ) → length (slots cs is) ≡ length is
unfolding slots
slots_length cs [] = refl
slots_length cs (i ∷ is) = ap suc (slots_length (drop 3 cs) is)

-- ---- elements

-- the points further on
pub point-drop : (cs : List Float) (k : ℕ) → point_at (drop 3 cs) k ≡ point_at cs (suc k)
point-drop cs k = λ t. record {
  x = at (3 * k) (3 * suc k) (omega arith) t;
  y = at (3 * k + 1) (3 * suc k + 1) (omega arith) t;
  z = at (3 * k + 2) (3 * suc k + 2) (omega arith) t;
}
  where
    at : (p q : ℕ) → 3 + p ≡ q → get_or (drop 3 cs) p nan ≡ get_or cs q nan
    at p q e = get_or-drop 3 cs p nan ∙ ap (λ (u : ℕ). get_or cs u nan) e

pub slots-get_or : (cs : List Float) (is : List ℕ) (k : ℕ) → k < length is → get_or (slots cs is) k none ≡ slot (point_at cs k) (get_or is k 0)
unfolding slots
slots-get_or cs [] k h = absurd (not-suc-le-zero h)
slots-get_or cs (i ∷ is) zero h = refl
slots-get_or cs (i ∷ is) (suc k) h =
    slots-get_or (drop 3 cs) is k (le_of_suc-le-suc h) ∙ ap (λ (p : Point3f). slot p (get_or is k 0)) (point-drop cs k)

-- ---- parts

first-take : (p : ℕ) (cs : List Float) → point_at (take (suc (suc (suc p))) cs) 0 ≡ point_at cs 0
first-take p [] = refl
first-take p (x ∷ []) = refl
first-take p (x ∷ y ∷ []) = refl
first-take p (x ∷ y ∷ z ∷ cs) = refl

rest-take : (p : ℕ) (cs : List Float) → drop 3 (take (suc (suc (suc p))) cs) ≡ take p (drop 3 cs)
rest-take zero [] = refl
rest-take (suc p) [] = refl
rest-take zero (x ∷ []) = refl
rest-take (suc p) (x ∷ []) = refl
rest-take zero (x ∷ y ∷ []) = refl
rest-take (suc p) (x ∷ y ∷ []) = refl
rest-take p (x ∷ y ∷ z ∷ cs) = refl

rest-drop : (p : ℕ) (cs : List Float) → drop (suc (suc (suc p))) cs ≡ drop p (drop 3 cs)
rest-drop p [] = sym (drop-nil p)
rest-drop p (x ∷ []) = sym (drop-nil p)
rest-drop p (x ∷ y ∷ []) = sym (drop-nil p)
rest-drop p (x ∷ y ∷ z ∷ cs) = refl

pub slots-take : (a : ℕ) (cs : List Float) (is : List ℕ) → slots (take (3 * a) cs) (take a is) ≡ take a (slots cs is)
unfolding slots
slots-take zero cs is = refl
slots-take (suc a) cs [] = refl
slots-take (suc a) cs (i ∷ is) =
    ap (λ (p : ℕ). slot (point_at (take p cs) 0) i ∷ slots (drop 3 (take p cs)) (take a is)) (thrice a)
    ∙ ap₂ (λ (h : Point3f) (r : List Float). slot h i ∷ slots r (take a is)) (first-take (3 * a) cs) (rest-take (3 * a) cs)
    ∙ ap (λ (r : List Slot). slot (point_at cs 0) i ∷ r) (slots-take a (drop 3 cs) is)

pub slots-drop : (a : ℕ) (cs : List Float) (is : List ℕ) → slots (drop (3 * a) cs) (drop a is) ≡ drop a (slots cs is)
unfolding slots
slots-drop zero cs is = refl
slots-drop (suc a) cs [] = refl
slots-drop (suc a) cs (i ∷ is) =
    ap (λ (p : ℕ). slots (drop p cs) (drop a is)) (thrice a)
    ∙ ap (λ (r : List Float). slots r (drop a is)) (rest-drop (3 * a) cs)
    ∙ slots-drop a (drop 3 cs) is

pub slots-append : (cs : List Float) (is : List ℕ) (ds : List Float) (js : List ℕ) → length cs ≡ 3 * length is
    → slots (cs ++ ds) (is ++ js) ≡ slots cs is ++ slots ds js
unfolding slots
slots-append [] [] ds js e = refl
slots-append (x ∷ cs) [] ds js e = absurd (omega arith)
slots-append [] (i ∷ is) ds js e = absurd (omega arith)
slots-append (x ∷ []) (i ∷ is) ds js e = absurd (omega arith)
slots-append (x ∷ y ∷ []) (i ∷ is) ds js e = absurd (omega arith)
slots-append (x ∷ y ∷ z ∷ cs) (i ∷ is) ds js e =
    ap (λ (r : List Slot). slot (point_at (x ∷ y ∷ z ∷ cs) 0) i ∷ r) (slots-append cs is ds js (omega arith))

-- a part that is lent, from slot a on, of n slots
pub slots-part : (a n p q : ℕ) (cs : List Float) (is : List ℕ) → p ≡ 3 * a → q ≡ 3 * n
    → slots (take q (drop p cs)) (take n (drop a is)) ≡ take n (drop a (slots cs is))
slots-part a n p q cs is e f =
    ap₂ (λ (u v : ℕ). slots (take u (drop v cs)) (take n (drop a is))) f e
    ∙ slots-take n (drop (3 * a) cs) (drop a is)
    ∙ ap (λ (r : List Slot). take n r) (slots-drop a cs is)

-- the whole, when the part is back
pub slots-paste : (a n p q : ℕ) (cs : List Float) (is : List ℕ) (ds : List Float) (js : List ℕ) → p ≡ 3 * a → q ≡ 3 * n
    → length cs ≡ 3 * length is → a + n ≤ length is → length ds ≡ q → length js ≡ n
    → slots (take p cs ++ (ds ++ drop q (drop p cs))) (take a is ++ (js ++ drop n (drop a is)))
    ≡ take a (slots cs is) ++ (slots ds js ++ drop n (drop a (slots cs is)))
slots-paste a n p q cs is ds js e f l b m k =
    slots-append (take p cs) (take a is) (ds ++ drop q (drop p cs)) (js ++ drop n (drop a is)) (omega (arith, length-take p cs, length-take a is))
    ∙ ap₂ (λ (u v : List Slot). u ++ v) (ap (λ (u : ℕ). slots (take u cs) (take a is)) e ∙ slots-take a cs is)
    (slots-append ds js (drop q (drop p cs)) (drop n (drop a is)) (omega arith)
    ∙ ap (λ (r : List Slot). slots ds js ++ r)
    (ap₂ (λ (u v : ℕ). slots (drop u (drop v cs)) (drop n (drop a is))) f e
    ∙ slots-drop n (drop (3 * a) cs) (drop a is)
    ∙ ap (λ (r : List Slot). drop n r) (slots-drop a cs is)))

-- numbers beyond the slots do not count
pub slots-long : (cs : List Float) (is : List ℕ) (n : ℕ) → 3 * length is ≤ n → slots (take n cs) is ≡ slots cs is
unfolding slots
slots-long cs [] n h = refl
slots-long cs (i ∷ is) zero h = absurd (omega arith)
slots-long cs (i ∷ is) (suc zero) h = absurd (omega arith)
slots-long cs (i ∷ is) (suc (suc zero)) h = absurd (omega arith)
slots-long cs (i ∷ is) (suc (suc (suc n))) h =
    ap₂ (λ (p : Point3f) (r : List Float). slot p i ∷ slots r is) (first-take n cs) (rest-take n cs)
    ∙ ap (λ (r : List Slot). slot (point_at cs 0) i ∷ r) (slots-long (drop 3 cs) is n (omega arith))

-- ---- stores

-- four stores make a slot
pub slots-store : (cs : List Float) (is : List ℕ) (m i : ℕ) (p : Point3f) → m < length is → 3 * m + 2 < length cs
    → slots (set (set (set cs (3 * m) p.x) (3 * m + 1) p.y) (3 * m + 2) p.z) (set is m i) ≡ set (slots cs is) m (slot p i)
unfolding slots
slots-store cs [] m i p h k = absurd (not-suc-le-zero h)
slots-store [] (j ∷ is) m i p h k = absurd (omega arith)
slots-store (a ∷ []) (j ∷ is) m i p h k = absurd (omega arith)
slots-store (a ∷ b ∷ []) (j ∷ is) m i p h k = absurd (omega arith)
slots-store (a ∷ b ∷ d ∷ cs) (j ∷ is) zero i p h k = refl
slots-store (a ∷ b ∷ d ∷ cs) (j ∷ is) (suc m) i p h k =
    ap (λ (u : ℕ). slots (set (set (set (a ∷ b ∷ d ∷ cs) u p.x) (3 * suc m + 1) p.y) (3 * suc m + 2) p.z) (j ∷ set is m i)) (thrice m)
    ∙ ap (λ (u : ℕ). slots (set (set (a ∷ b ∷ d ∷ set cs (3 * m) p.x) u p.y) (3 * suc m + 2) p.z) (j ∷ set is m i)) (on 1)
    ∙ ap (λ (u : ℕ). slots (set (a ∷ b ∷ d ∷ set (set cs (3 * m) p.x) (3 * m + 1) p.y) u p.z) (j ∷ set is m i)) (on 2)
    ∙ ap (λ (u : List Slot). slot (point_at (a ∷ b ∷ d ∷ cs) 0) j ∷ u) (slots-store cs is m i p (le_of_suc-le-suc h) (omega arith))
  where
    on : (r : ℕ) → 3 * suc m + r ≡ suc (suc (suc (3 * m + r)))
    on r = omega arith

-- ---- back to the flat lists

-- slots say which numbers they were made of
pub numbers-slots : (cs : List Float) (is : List ℕ) → length cs ≡ 3 * length is → numbers_of (slots cs is) ≡ cs
unfolding slots numbers_of
numbers-slots [] [] e = refl
numbers-slots (x ∷ cs) [] e = absurd (omega arith)
numbers-slots [] (i ∷ is) e = absurd (omega arith)
numbers-slots (x ∷ []) (i ∷ is) e = absurd (omega arith)
numbers-slots (x ∷ y ∷ []) (i ∷ is) e = absurd (omega arith)
numbers-slots (x ∷ y ∷ z ∷ cs) (i ∷ is) e = ap (λ (r : List Float). x ∷ y ∷ z ∷ r) (numbers-slots cs is (omega arith))

pub indices-slots : (cs : List Float) (is : List ℕ) → indices_of (slots cs is) ≡ is
unfolding slots indices_of
indices-slots cs [] = refl
indices-slots cs (i ∷ is) = ap (λ (r : List ℕ). i ∷ r) (indices-slots (drop 3 cs) is)

-- and the other way round
pub slots-of : (ss : List Slot) → slots (numbers_of ss) (indices_of ss) ≡ ss
unfolding slots numbers_of indices_of
slots-of [] = refl
slots-of (s ∷ ss) = ap (λ (r : List Slot). s ∷ r) (slots-of ss)

pub numbers-length : (ss : List Slot) → length (numbers_of ss) ≡ 3 * length ss
unfolding numbers_of
numbers-length [] = refl
numbers-length (s ∷ ss) = omega (arith, numbers-length ss)

pub indices-length : (ss : List Slot) → length (indices_of ss) ≡ length ss
unfolding indices_of
indices-length [] = refl
indices-length (s ∷ ss) = ap suc (indices-length ss)

pub numbers-append : (ss ts : List Slot) → numbers_of (ss ++ ts) ≡ numbers_of ss ++ numbers_of ts
unfolding numbers_of
numbers-append [] ts = refl
numbers-append (s ∷ ss) ts = ap (λ (r : List Float). s.point.x ∷ s.point.y ∷ s.point.z ∷ r) (numbers-append ss ts)

pub indices-append : (ss ts : List Slot) → indices_of (ss ++ ts) ≡ indices_of ss ++ indices_of ts
unfolding indices_of
indices-append [] ts = refl
indices-append (s ∷ ss) ts = ap (λ (r : List ℕ). s.index ∷ r) (indices-append ss ts)
