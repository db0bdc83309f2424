-- What the walk of k nearest has seen: the slots, in the order in which they were met. What is held are the first k of the sort of their entries below infinity, and of those the k-th distance only falls.
-- Assumes nothing.
use mathlib.Core.Path.{◌≡◌, refl, sym, ap, ◌∙◌, subst}
use mathlib.Core.Bool.{Bool, true, false, cond}
use mathlib.Core.Logic.{⊎_elim}
use mathlib.Core.List.{List, [], ◌∷◌, ◌++◌, Memᴰ}
use mathlib.Core.List.Memᴰ
use Prim.Native.Nat.{ℕ, zero, suc, ◌≤◌, ◌<◌}
use native.Mathlib.Nat.{le_of_suc-le-suc, not-suc-le-zero}
use native.Mathlib.Omega.{arith}
use lib.Dec.{T, ltb}
use lib.ListN.{length, get_or, take, length-take, length-append}
use lib.Ieee.{binary32, fits, lt, le}
use lib.Ieee.Bits.{is_true}
use borrow.Author.Tests.{ltb-true, ltb-false}
use Rattle.bits.specs.Constants.{infinite}
use Rattle.bits.proofs.Compare.{plus, highest, lt-le-trans}
use Rattle.bits.proofs.Keys.{key-le}
use Rattle.space.specs.declared.Point3f.{Point3f}
use Rattle.space.proofs.Under.{distance-fits, distance-plus}
use Rattle.tree.specs.Slots.{Slot}
use Rattle.tree.specs.Part.{Part}
use Rattle.tree.specs.Sort.{sort}
use Rattle.tree.specs.Walk.{walk}
use Rattle.tree.proofs.Perm.{perm-mem}
use Rattle.tree.proofs.Sort.{Sorted, side, sort-perm, sort_sorted, sort-length}
use Rattle.tree.proofs.Stable.{insert_after, after-here, after-past, sort-snoc}
use Rattle.tree.proofs.Walk.{Falling}
use Rattle.lists.specs.Entry.{Entry, entry, far, keep}
use Rattle.lists.specs.KNearest.{kth, offer, below_kth, below_infinity, k_nearest}
use Rattle.lists.specs.Nearest.{below, first_of, see, judge}
use Rattle.lists.proofs.KNearest.{Good, AllGood, T_true, step, e-good, get_or-mem, sorted-at, kth-at, kth-none, kth-number}
pub use Rattle.lists.proofs.KNearest.{mem-first}
use Rattle.lists.proofs.Follow.{changed-id, walk-follows}

-- every distance is an f32 with its sign clear
clear : (q : Point3f) (n : Slot) → T (plus (entry q n).distance)
unfolding entry
clear q n = distance-plus q n.point

fit : (q : Point3f) (n : Slot) → T (fits binary32 (entry q n).distance)
unfolding entry
fit q n = distance-fits q n.point

-- ---- parts of lists in order
module _ {A : Type 0} where
  pub sorted-first : (key : A → ℕ) (k : ℕ) (l : List A) → Sorted key l → Sorted key (take k l)
  unfolding Sorted
  sorted-first key zero l s = tt
  sorted-first key (suc k) [] s = tt
  sorted-first key (suc k) (x ∷ l) s = (λ t m. s.0 t (mem-first k l m), sorted-first key k l s.1)

  -- with one element more no place has a higher number
  after-under : (key : A → ℕ) (d x : A) (l : List A) (j : ℕ) → Sorted key l → j < length l → key (get_or (insert_after key x l) j d) ≤ key (get_or l j d)
  unfolding Sorted insert_after
  after-under key d x [] j s h = absurd (not-suc-le-zero h)
  after-under key d x (b ∷ l) j s h =
      ⊎_elim
      (λ (p : key b ≤ key x). subst (λ (r : List A). key (get_or r j d) ≤ key (get_or (b ∷ l) j d)) (sym (after-past key x b l p)) (past j h (λ i g. after-under key d x l i s.1 g)))
      (λ (p : key x < key b). subst (λ (r : List A). key (get_or r j d) ≤ key (get_or (b ∷ l) j d)) (sym (after-here key x b l p)) (here j h p))
      (side key b x)
    where
      past : (i : ℕ) → i < suc (length l) → ((t : ℕ) → t < length l → key (get_or (insert_after key x l) t d) ≤ key (get_or l t d)) → key (get_or (b ∷ insert_after key x l) i d) ≤ key (get_or (b ∷ l) i d)
      past zero g ih = omega arith
      past (suc i) g ih = ih i (le_of_suc-le-suc g)

      here : (i : ℕ) → i < suc (length l) → key x < key b → key (get_or (x ∷ b ∷ l) i d) ≤ key (get_or (b ∷ l) i d)
      here zero g p = omega arith
      here (suc i) g p = sorted-at key (b ∷ l) s i (suc i) d (omega arith) g

-- ---- the entries below infinity of what was seen

module _ (q : Point3f) where
  below-good : (seen : List Slot) → AllGood (below q seen)
  unfolding below keep
  below-good [] x m = absurd (Memᴰ.not-nil m)
  below-good (n ∷ seen) x m = go (below_infinity (entry q n)) refl m (below-good seen x)
    where
      rest : List Entry
      rest = below q seen

      go : (c : Bool) → below_infinity (entry q n) ≡ c → Memᴰ x (cond c (entry q n ∷ rest) rest) → (Memᴰ x rest → Good x) → Good x
      go true b m ih =
          ⊎_elim (λ t. subst Good (sym t) (e-good 0 q n [] (λ y h. absurd (Memᴰ.not-nil h)) (clear q n) (fit q n) b)) ih (Memᴰ.cases_cons m)
      go false b m ih = ih m

  -- one slot more
  below-see : (n : Slot) (seen : List Slot) → below q (see n seen) ≡ cond (below_infinity (entry q n)) (below q seen ++ (entry q n ∷ [])) (below q seen)
  unfolding below keep
  below-see n [] = go (below_infinity (entry q n))
    where
      go : (c : Bool) → cond c (entry q n ∷ []) [] ≡ cond c (entry q n ∷ []) []
      go c = refl
  below-see n (m ∷ seen) =
      ap (λ (u : List Entry). cond (below_infinity (entry q m)) (entry q m ∷ u) u) (below-see n seen)
      ∙ go (below_infinity (entry q m)) (below_infinity (entry q n))
    where
      rest : List Entry
      rest = below q seen

      go : (b c : Bool) → cond b (entry q m ∷ cond c (rest ++ (entry q n ∷ [])) rest) (cond c (rest ++ (entry q n ∷ [])) rest)
          ≡ cond c (cond b (entry q m ∷ rest) rest ++ (entry q n ∷ [])) (cond b (entry q m ∷ rest) rest)
      go true true = refl
      go true false = refl
      go false true = refl
      go false false = refl

module _ (k : ℕ) (q : Point3f) where
  pub see-held : (n : Slot) (seen : List Slot) → first_of k q (see n seen) ≡ offer k q n (first_of k q seen)
  unfolding first_of
  see-held n seen =
      ap (λ (u : List Entry). take k (sort far u)) (below-see q n seen)
      ∙ go (below_infinity (entry q n))
      ∙ sym (step k q n (below q seen) (below-good q seen) (clear q n) (fit q n))
    where
      P : List Entry
      P = below q seen

      go : (c : Bool) → take k (sort far (cond c (P ++ (entry q n ∷ [])) P)) ≡ cond c (take k (insert_after far (entry q n) (sort far P))) (take k (sort far P))
      go true = ap (take k) (sort-snoc far P (entry q n))
      go false = refl

  -- the walk holds the first k of what it has seen
  pub seen-walk : (axis : ℕ) (t : Part) (seen : List Slot) → first_of k q (walk see (judge k q) q axis t seen) ≡ walk (offer k q) (below_kth k) q axis t (first_of k q seen)
  unfolding judge
  seen-walk axis t seen =
      walk-follows (first_of k q) (λ n. n) see (judge k q) (offer k q) (below_kth k) q (λ n. refl) see-held (λ pl u. refl) axis t seen
      ∙ ap (λ (u : Part). walk (offer k q) (below_kth k) q axis u (first_of k q seen)) (changed-id t)

  pub first-none : first_of k q [] ≡ []
  unfolding first_of below keep sort
  first-none = go k
    where
      go : (j : ℕ) → ◌≡◌ {A = List Entry} (take j []) []
      go zero = refl
      go (suc j) = refl

  pub seen_all : (t : Part) → first_of k q (walk see (judge k q) q 0 t []) ≡ k_nearest q k t
  unfolding k_nearest
  seen_all t = seen-walk 0 t [] ∙ ap (λ (u : List Entry). walk (offer k q) (below_kth k) q 0 t u) first-none

  -- ---- what is held
  pub held-sorted : (seen : List Slot) → Sorted far (first_of k q seen)
  unfolding first_of
  held-sorted seen = sorted-first far k (sort far (below q seen)) (sort_sorted far (below q seen))

  pub held-good : (seen : List Slot) → AllGood (first_of k q seen)
  unfolding first_of
  held-good seen x m = below-good q seen x (perm-mem (sort-perm far (below q seen)) (mem-first k (sort far (below q seen)) m))

  pub held-few : (seen : List Slot) → length (first_of k q seen) ≤ k
  unfolding first_of
  held-few seen = omega (arith, length-take k (sort far (below q seen)))

  -- ---- the k-th distance only falls
  falls : (n : Slot) (x : Entry) (P U : List Entry) → AllGood P → AllGood U → sort far U ≡ insert_after far x (sort far P) → length P ≤ length U
      → T (le (kth k (take k (sort far U))) (kth k (take k (sort far P))))
  unfolding kth far
  falls n x P U P-good U-good e h = go k refl
    where
      good : (V : List Entry) → AllGood V → (j : ℕ) → j < length (sort far V) → Good (get_or (sort far V) j x)
      good V V-good j i = V-good _ (perm-mem (sort-perm far V) (get_or-mem (sort far V) j x i))

      go : (i : ℕ) → k ≡ i → T (le (kth i (take i (sort far U))) (kth i (take i (sort far P))))
      go zero p = highest infinite tt
      go (suc j) p = pick (ltb j (length (sort far P))) refl
        where
          pick : (c : Bool) → ltb j (length (sort far P)) ≡ c → T (le (kth (suc j) (take (suc j) (sort far U))) (kth (suc j) (take (suc j) (sort far P))))
          pick true r =
              let i : j < length (sort far P) = ltb-true j (length (sort far P)) r in
              let i' : j < length (sort far U) = omega (arith, sort-length far P, sort-length far U) in
              let g = good P P-good j i in
              let g' = good U U-good j i' in
              let under : far (get_or (sort far U) j x) ≤ far (get_or (sort far P) j x) =
              subst (λ (l : List Entry). far (get_or l j x) ≤ far (get_or (sort far P) j x)) (sym e) (after-under far x x (sort far P) j (sort_sorted far P) i) in
              rw (kth-at j (sort far P) x i, kth-at j (sort far U) x i')
              (key-le (get_or (sort far U) j x).distance (get_or (sort far P) j x).distance g'.held g.held g'.number g.number under)
          pick false r =
              rw (kth-none j (sort far P) (ltb-false j (length (sort far P)) r))
              (highest (kth (suc j) (take (suc j) (sort far U))) (kth-number (suc j) q n U U-good (clear q n) (fit q n)))

  pub seen-falling : Falling see (judge k q)
  unfolding judge first_of below_kth
  seen-falling pl n seen h = go (below_infinity (entry q n)) refl (ap (λ (u : List Entry). lt pl (kth k (take k (sort far u)))) (sym (below-see q n seen)) ∙ h)
    where
      P : List Entry
      P = below q seen

      U : List Entry
      U = P ++ (entry q n ∷ [])

      go : (c : Bool) → below_infinity (entry q n) ≡ c → lt pl (kth k (take k (sort far (cond c U P)))) ≡ true → lt pl (kth k (take k (sort far P))) ≡ true
      go true b h =
          is_true (lt pl (kth k (take k (sort far P))))
          (lt-le-trans pl (kth k (take k (sort far U))) (kth k (take k (sort far P))) (T_true (lt pl (kth k (take k (sort far U)))) h)
          (falls n (entry q n) P U (below-good q seen) more (sort-snoc far P (entry q n)) (omega (arith, length-append P (entry q n ∷ [])))))
        where
          more : AllGood U
          more = subst AllGood (below-see q n seen ∙ ap (λ (c : Bool). cond c U P) b) (below-good q (see n seen))
      go false b h = h
