-- Laws of the pair list: one match entry more.
use Prim.Native.Nat.{ℕ, suc, ◌+◌, ◌≤◌, ◌<◌}
use native.Mathlib.Nat.{add-zero, zero-add, add-suc, suc-add}
use native.Mathlib.Omega.{arith}
use mathlib.Core.Path.{◌≡◌, refl, sym, ap, ◌∙◌, subst}
use mathlib.Core.Bool.{Bool, true, false, not, cond}
use mathlib.Core.List.{List, [], ◌∷◌, ◌++◌, append-nil, map}
use lib.Dec.{eqb}
use lib.ListN.{length, take, drop, set, get_or, length-append, take-append-drop, length-map}
use lib.Seq.{take-suc, length-take-le}
use borrow.Author.Tests.{eq-eqb, ne_eqb}
use mir.Val.{bool_byte}
use Rattle.tree.specs.Refuse.{no_match, overwrite}
use Rattle.matching.specs.Pairs.{Pair, pair, pairs_from, pairs}
use Rattle.tree.proofs.Overwrite.{over-one, length_over}

-- what entry i adds to the list
abbrev one : ℕ → ℕ → List Pair
one i m = cond (eqb m no_match) [] (pair i m ∷ [])

-- entries one after the other give their pairs one after the other
apart : (j : ℕ) (xs ys : List ℕ) → pairs_from j (xs ++ ys) ≡ pairs_from j xs ++ pairs_from (j + length xs) ys
unfolding pairs_from
apart j [] ys = ap (λ (k : ℕ). pairs_from k ys) (sym (add-zero j))
apart j (x ∷ xs) ys =
    go (eqb x no_match) _ _ _ (apart (suc j) xs ys ∙ ap (λ (k : ℕ). pairs_from (suc j) xs ++ pairs_from k ys) (suc-add j (length xs) ∙ sym (add-suc j (length xs))))
  where
    go : (b : Bool) (r s t : List Pair) → r ≡ s ++ t → cond b r (pair j x ∷ r) ≡ cond b s (pair j x ∷ s) ++ t
    go true r s t e = e
    go false r s t e = ap (λ (l : List Pair). pair j x ∷ l) e

alone : (i m : ℕ) → pairs_from i (m ∷ []) ≡ one i m
unfolding pairs_from
alone i m = refl

plus_one : (i : ℕ) → i + 1 ≡ suc i
plus_one i = omega arith

step : (M : List ℕ) (i : ℕ) → i < length M → pairs (take (i + 1) M) ≡ pairs (take i M) ++ one i (get_or M i 0)
unfolding pairs
step M i h =
    ap (λ (k : ℕ). pairs_from 0 (take k M)) (plus_one i) ∙ ap (pairs_from 0) (take-suc M i 0 h) ∙ apart 0 (take i M) (get_or M i 0 ∷ [])
    ∙ ap (λ (k : ℕ). pairs_from 0 (take i M) ++ pairs_from k (get_or M i 0 ∷ [])) (zero-add (length (take i M)) ∙ length-take-le i M (omega arith))
    ∙ ap (λ (l : List Pair). pairs_from 0 (take i M) ++ l) (alone i (get_or M i 0))

-- at an entry that is no match, and at one that is
pub step-none : (M : List ℕ) (i : ℕ) → i < length M → get_or M i 0 ≡ no_match → pairs (take (i + 1) M) ≡ pairs (take i M)
step-none M i h e = step M i h ∙ ap (λ (b : Bool). pairs (take i M) ++ cond b [] (pair i (get_or M i 0) ∷ [])) (eq-eqb (get_or M i 0) no_match e) ∙ append-nil (pairs (take i M))

step-one : (M : List ℕ) (i : ℕ) → i < length M → (get_or M i 0 ≡ no_match → ⊥) → pairs (take (i + 1) M) ≡ pairs (take i M) ++ (pair i (get_or M i 0) ∷ [])
step-one M i h e = step M i h ∙ ap (λ (b : Bool). pairs (take i M) ++ cond b [] (pair i (get_or M i 0) ∷ [])) (ne_eqb (get_or M i 0) no_match e)

pub grows : (M : List ℕ) (i : ℕ) → i < length M → (get_or M i 0 ≡ no_match → ⊥) → length (pairs (take (i + 1) M)) ≡ length (pairs (take i M)) + 1
grows M i h e = ap length (step-one M i h e) ∙ length-append (pairs (take i M)) (pair i (get_or M i 0) ∷ [])

-- the same, counted without a branch
pub one-more : (M : List ℕ) (i : ℕ) → i < length M → length (pairs (take i M)) + bool_byte (not (eqb (get_or M i 0) no_match)) ≡ length (pairs (take (i + 1) M))
one-more M i h =
    sym (ap length (step M i h) ∙ length-append (pairs (take i M)) (one i (get_or M i 0)) ∙ ap (λ (k : ℕ). length (pairs (take i M)) + k) (go (eqb (get_or M i 0) no_match)))
  where
    go : (b : Bool) → length (cond b [] (pair i (get_or M i 0) ∷ [])) ≡ bool_byte (not b)
    go true = refl
    go false = refl

pub nil : 0 ≡ length (pairs [])
unfolding pairs pairs_from
nil = refl

map-one : {B : Type 0} (f : Pair → B) (ps : List Pair) (p : Pair) → map f (ps ++ (p ∷ [])) ≡ map f ps ++ (f p ∷ [])
map-one f [] p = refl
map-one f (x ∷ ps) p = ap (λ r. f x ∷ r) (map-one f ps p)

-- the numbers f of the pairs of the first i entries, written over S; at a matched entry one more
module _ (f : Pair → ℕ) where
  pub written_one : (M S : List ℕ) (i n : ℕ) → i < length M → (get_or M i 0 ≡ no_match → ⊥) → n ≡ length (pairs (take i M)) → n < length S
      → set (overwrite (map f (pairs (take i M))) S) n (f (pair i (get_or M i 0))) ≡ overwrite (map f (pairs (take (i + 1) M))) S
  written_one M S i n h e p r =
      let A = map f (pairs (take i M)) in
      let x = f (pair i (get_or M i 0)) in
      let q : length A ≡ n = length-map (pairs (take i M)) f ∙ sym p in
      ap (λ (k : ℕ). set (overwrite A S) k x) (sym q)
      ∙ sym (over-one A S x (subst (λ (k : ℕ). k < length S) (sym q) r))
      ∙ ap (λ (l : List ℕ). overwrite l S) (sym (ap (map f) (step-one M i h e) ∙ map-one f (pairs (take i M)) (pair i (get_or M i 0))))

-- a front of the entries has no more pairs
pub front-le : (M : List ℕ) (i : ℕ) → length (pairs (take i M)) ≤ length (pairs M)
unfolding pairs
front-le M i =
    let e : length (pairs_from 0 M) ≡ length (pairs_from 0 (take i M)) + length (pairs_from (0 + length (take i M)) (drop i M)) =
    ap (λ (l : List ℕ). length (pairs_from 0 l)) (sym (take-append-drop i M)) ∙ ap length (apart 0 (take i M) (drop i M))
    ∙ length-append (pairs_from 0 (take i M)) (pairs_from (0 + length (take i M)) (drop i M)) in
    omega arith

pub written-length : (f : Pair → ℕ) (M S : List ℕ) (i : ℕ) → length (pairs M) ≤ length S → length (overwrite (map f (pairs (take i M))) S) ≡ length S
written-length f M S i h = length_over (map f (pairs (take i M))) S (omega (arith, length-map (pairs (take i M)) f, front-le M i))
