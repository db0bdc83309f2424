-- Laws of permutations (mathlib's derivations `Permᴰ`) over native numbers, and of two elements that change places. Assumes nothing.
use mathlib.Core.Path.{◌≡◌, refl, sym, ap, ◌∙◌, subst}
use mathlib.Core.Logic.{⊎_elim, ◌≢◌}
use mathlib.Core.List.{List, [], ◌∷◌, ◌++◌}
use mathlib.Core.List.Memᴰ
use mathlib.Core.List.{Memᴰ}
use mathlib.Core.List.Permᴰ
use mathlib.Core.List.{Permᴰ}
use Prim.Native.Nat.{ℕ, zero, suc, ◌≤◌, ◌<◌}
use native.Mathlib.Nat.{le_of_suc-le-suc, not-suc-le-zero}
use native.Mathlib.Omega.{arith}
use native.Mathlib.Decide.{ℕ_discrete}
use lib.ListN.{length, get_or, set, length-set}
use lib.Seq.{get_or-set_same, get_or-set_other, lt-length-set}

-- elements i and j change places; d is read past the end
abbrev pub swapped {ℓ} : {A : Type ℓ} → A → List A → ℕ → ℕ → List A
swapped d l i j = set (set l i (get_or l j d)) j (get_or l i d)

-- what stands at k when i and j have changed places stood at k'
pub data Moved (i j k k' : ℕ) : Type 0 where
  to-first : k ≡ i → k' ≡ j → Moved i j k k'
  to-second : k ≡ j → k' ≡ i → Moved i j k k'
  kept : k ≢ i → k ≢ j → k' ≡ k → Moved i j k k'

pub moved-from : (i j k : ℕ) → (k' : ℕ) × Moved i j k k'
moved-from i j k = go (ℕ_discrete k i) (ℕ_discrete k j)
  where
    go : Dec (k ≡ i) → Dec (k ≡ j) → (k' : ℕ) × Moved i j k k'
    go (yes e) d = (j, to-first e refl)
    go (no n) (yes e) = (i, to-second e refl)
    go (no n) (no m) = (k, kept n m refl)

pub moved-below : {i j k k' : ℕ} (n : ℕ) → i < n → j < n → k < n → Moved i j k k' → k' < n
moved-below n a b c (to-first e f) = omega arith
moved-below n a b c (to-second e f) = omega arith
moved-below n a b c (kept e f g) = omega arith

module _ {A : Type 0} where
  pub perm-mem : {a : A} {l l' : List A} → Permᴰ l l' → Memᴰ a l → Memᴰ a l'
  perm-mem Permᴰ.nil m = m
  perm-mem (Permᴰ.cons e d) m = ⊎_elim (λ f. Memᴰ.head (f ∙ e)) (λ n. Memᴰ.tail (perm-mem d n)) (Memᴰ.cases_cons m)
  perm-mem (Permᴰ.swap e f) m =
      ⊎_elim (λ g. Memᴰ.tail (Memᴰ.head (g ∙ e)))
      (λ n. ⊎_elim (λ g. Memᴰ.head (g ∙ f)) (λ n'. Memᴰ.tail (Memᴰ.tail n')) (Memᴰ.cases_cons n))
      (Memᴰ.cases_cons m)
  perm-mem (Permᴰ.trans d d') m = perm-mem d' (perm-mem d m)

  pub perm-length : {l l' : List A} → Permᴰ l l' → length l ≡ length l'
  perm-length Permᴰ.nil = refl
  perm-length (Permᴰ.cons e d) = ap suc (perm-length d)
  perm-length (Permᴰ.swap e f) = refl
  perm-length (Permᴰ.trans d d') = perm-length d ∙ perm-length d'

  pub perm-of-eq : {l l' : List A} → l ≡ l' → Permᴰ l l'
  perm-of-eq {l} e = subst (λ (k : List A). Permᴰ l k) e (Permᴰ.refl l)

  pub perm-append : {a b c d : List A} → Permᴰ a c → Permᴰ b d → Permᴰ (a ++ b) (c ++ d)
  perm-append {a} {b} {c} {d} p q = Permᴰ.trans (Permᴰ.append_right b p) (Permᴰ.append_left c q)

  -- an element changes places with what stands before the list
  pub set-perm : (d b : A) (l : List A) (i : ℕ) → i < length l → Permᴰ (get_or l i d ∷ set l i b) (b ∷ l)
  set-perm d b [] i h = absurd (not-suc-le-zero h)
  set-perm d b (x ∷ l) zero h = Permᴰ.swap refl refl
  set-perm d b (x ∷ l) (suc i) h =
      Permᴰ.trans (Permᴰ.swap refl refl)
      (Permᴰ.trans (Permᴰ.cons refl (set-perm d b l i (le_of_suc-le-suc h))) (Permᴰ.swap refl refl))

  pub swapped-perm : (d : A) (l : List A) (i j : ℕ) → i ≤ j → j < length l → Permᴰ (swapped d l i j) l
  swapped-perm d [] i j h k = absurd (not-suc-le-zero k)
  swapped-perm d (x ∷ l) zero zero h k = Permᴰ.refl (x ∷ l)
  swapped-perm d (x ∷ l) zero (suc j) h k = set-perm d x l j (le_of_suc-le-suc k)
  swapped-perm d (x ∷ l) (suc i) zero h k = absurd (not-suc-le-zero h)
  swapped-perm d (x ∷ l) (suc i) (suc j) h k = Permᴰ.cons refl (swapped-perm d l i j (le_of_suc-le-suc h) (le_of_suc-le-suc k))

  pub swapped-length : (d : A) (l : List A) (i j : ℕ) → length (swapped d l i j) ≡ length l
  swapped-length d l i j = length-set (set l i (get_or l j d)) j (get_or l i d) ∙ length-set l i (get_or l j d)

module _ {A : Type 0} (d : A) (l : List A) (i j : ℕ) (hi : i < length l) (hj : j < length l) where
  pub swapped-second : get_or (swapped d l i j) j d ≡ get_or l i d
  swapped-second = get_or-set_same (set l i (get_or l j d)) j (get_or l i d) d (lt-length-set l i (get_or l j d) hj)

  pub swapped-first : get_or (swapped d l i j) i d ≡ get_or l j d
  swapped-first = go (ℕ_discrete i j)
    where
      go : Dec (i ≡ j) → get_or (swapped d l i j) i d ≡ get_or l j d
      go (yes e) = ap (λ (k : ℕ). get_or (swapped d l i j) k d) e ∙ swapped-second ∙ ap (λ (k : ℕ). get_or l k d) e
      go (no n) = get_or-set_other (set l i (get_or l j d)) j i (get_or l i d) d n ∙ get_or-set_same l i (get_or l j d) d hi

  pub swapped_at : (k k' : ℕ) → Moved i j k k' → get_or (swapped d l i j) k d ≡ get_or l k' d
  swapped_at k k' (to-first e f) = ap (λ (q : ℕ). get_or (swapped d l i j) q d) e ∙ swapped-first ∙ ap (λ (q : ℕ). get_or l q d) (sym f)
  swapped_at k k' (to-second e f) = ap (λ (q : ℕ). get_or (swapped d l i j) q d) e ∙ swapped-second ∙ ap (λ (q : ℕ). get_or l q d) (sym f)
  swapped_at k k' (kept e f g) =
      get_or-set_other (set l i (get_or l j d)) j k (get_or l i d) d f ∙ get_or-set_other l i k (get_or l j d) d e ∙ ap (λ (q : ℕ). get_or l q d) (sym g)

-- ---- pigeonholes

module _ {A : Type 0} where
  -- an element of a list goes to the front
  pub mem-front : {a : A} (l : List A) → Memᴰ a l → (l' : List A) × Permᴰ l (a ∷ l')
  mem-front [] m = absurd (Memᴰ.not-nil m)
  mem-front {a} (b ∷ l) m =
      ⊎_elim (λ (e : a ≡ b). (l, Permᴰ.cons (sym e) (Permᴰ.refl l)))
      (λ (n : Memᴰ a l).
      let f = mem-front l n in
      (b ∷ f.0, Permᴰ.trans (Permᴰ.cons refl f.1) (Permᴰ.swap refl refl)))
      (Memᴰ.cases_cons m)

module _ {A : Type 0} (number : A → ℕ) where
  -- no two places of a list have one number
  unfoldable pub Distinct : List A → Type 0
  Distinct [] = Unit {0}
  Distinct (a ∷ l) = ((t : A) → Memᴰ t l → number a ≢ number t) × Distinct l

  -- what is in a list that is no longer, and each in a place of its own, is all of it
  pub pigeonhole : (l l' : List A) → Distinct l → ((s : A) → Memᴰ s l → Memᴰ s l') → length l' ≤ length l → Permᴰ l l'
  unfolding Distinct
  pigeonhole [] [] d h k = Permᴰ.nil
  pigeonhole [] (b ∷ l') d h k = absurd (not-suc-le-zero k)
  pigeonhole (a ∷ l) l' d h k =
      let f = mem-front l' (h a (Memᴰ.head refl)) in
      Permᴰ.trans
      (Permᴰ.cons refl
      (pigeonhole l f.0 d.1
      (λ s m.
      ⊎_elim (λ (e : s ≡ a). absurd (d.0 s m (ap number (sym e)))) (λ (n : Memᴰ s f.0). n)
      (Memᴰ.cases_cons (perm-mem f.1 (h s (Memᴰ.tail m)))))
      (omega (arith, perm-length f.1))))
      (Permᴰ.symm f.1)

  pub distinct-perm : {l l' : List A} → Permᴰ l l' → Distinct l → Distinct l'
  unfolding Distinct
  distinct-perm Permᴰ.nil d = d
  distinct-perm (Permᴰ.cons {a = a} {b = b} {l₁ = l} {l₂ = l'} e p) d = (
    λ t m f. d.0 t (perm-mem (Permᴰ.symm p) m) (ap number e ∙ f),
    distinct-perm p d.1,
  )
  distinct-perm (Permᴰ.swap {a = a} {b = b} {a' = a'} {b' = b'} {l = l} e f) d = (
    λ t m g.
        ⊎_elim (λ (k : t ≡ b'). d.0 b (Memᴰ.head refl) (ap number (e ∙ sym k) ∙ sym g ∙ ap number (sym f)))
        (λ (n : Memᴰ t l). d.1.0 t n (ap number f ∙ g))
        (Memᴰ.cases_cons m),
    (λ t m g. d.0 t (Memᴰ.tail m) (ap number e ∙ g), d.1.1),
  )
  distinct-perm (Permᴰ.trans p q) d = distinct-perm q (distinct-perm p d)

  pub distinct-left : (l r : List A) → Distinct (l ++ r) → Distinct l
  unfolding Distinct
  distinct-left [] r d = tt
  distinct-left (a ∷ l) r d = (λ t m. d.0 t (Memᴰ.append_left r m), distinct-left l r d.1)

  pub distinct-right : (l r : List A) → Distinct (l ++ r) → Distinct r
  unfolding Distinct
  distinct-right [] r d = d
  distinct-right (a ∷ l) r d = distinct-right l r d.1

  -- no element stands on both sides
  pub distinct-sides : (l r : List A) → Distinct (l ++ r) → (s : A) → Memᴰ s l → Memᴰ s r → ⊥
  unfolding Distinct
  distinct-sides [] r d s m n = Memᴰ.not-nil m
  distinct-sides (a ∷ l) r d s m n =
      ⊎_elim (λ (e : s ≡ a). d.0 s (Memᴰ.append_right l n) (ap number (sym e))) (λ (k : Memᴰ s l). distinct-sides l r d.1 s k n)
      (Memᴰ.cases_cons m)
