-- Numbers written to the front of a lent list, one after the other.
use Prim.Native.Nat.{ℕ, ◌+◌, ◌≤◌, ◌<◌}
use native.Mathlib.Omega.{arith}
use mathlib.Core.Path.{◌≡◌, refl, sym, ap, ◌∙◌, subst}
use mathlib.Core.List.{List, [], ◌∷◌, ◌++◌, append_assoc}
use lib.ListN.{length, set, length-append}
use lib.Ieee.{Float}
use Rattle.tree.specs.Refuse.{overwrite}
use Rattle.tree.proofs.Overwrite.{over-one}
use Rattle.sums.specs.declared.Vector3d.{Vector3d}
use Rattle.sums.specs.declared.CorrespondenceStats.{CorrespondenceStats}
use Rattle.capi.specs.Answers.{vector_numbers, sum_numbers}

-- one number more at n, where the numbers N end
pub one_more : {A : Type 0} (N S : List A) (n : ℕ) (x : A) → length N ≡ n → n < length S → set (overwrite N S) n x ≡ overwrite (N ++ (x ∷ [])) S
one_more {A} N S n x ends h = subst (λ (k : ℕ). set (overwrite N S) k x ≡ overwrite (N ++ (x ∷ [])) S) ends (sym (over-one N S x (omega arith)))

-- three more
pub three-more : {A : Type 0} (N S : List A) (n : ℕ) (x y z : A) → length N ≡ n → n + 2 < length S
    → set (set (set (overwrite N S) n x) (n + 1) y) (n + 2) z ≡ overwrite (N ++ (x ∷ y ∷ z ∷ [])) S
three-more {A} N S n x y z ends h =
    let N1 = N ++ (x ∷ []) in
    let N2 = N1 ++ (y ∷ []) in
    let e1 : length N1 ≡ n + 1 = length-append N (x ∷ []) ∙ ap (λ (k : ℕ). k + 1) ends in
    let e2 : length N2 ≡ n + 2 = length-append N1 (y ∷ []) ∙ omega arith in
    ap (λ (l : List A). set (set l (n + 1) y) (n + 2) z) (one_more N S n x ends (omega arith))
    ∙ ap (λ (l : List A). set l (n + 2) z) (one_more N1 S (n + 1) y e1 (omega arith))
    ∙ one_more N2 S (n + 2) z e2 h
    ∙ ap (λ (l : List A). overwrite l S) (append_assoc N1 (y ∷ []) (z ∷ []) ∙ append_assoc N (x ∷ []) (y ∷ z ∷ []))

-- a vector more: what stands in front is N
abbrev pub vector_at : List Float → ℕ → Vector3d → List Float
vector_at l n v = set (set (set l n v.x) (n + 1) v.y) (n + 2) v.z

vector-more : (N S : List Float) (n : ℕ) (v : Vector3d) {T U : List Float} → length N ≡ n → n + 2 < length S → T ≡ overwrite N S → U ≡ vector_at T n v
    → U ≡ overwrite (N ++ vector_numbers v) S
vector-more N S n v ends h t u = u ∙ ap (λ (l : List Float). vector_at l n v) t ∙ three-more N S n v.x v.y v.z ends h

-- ---- at the front of a lent list

-- the sixteen sums
pub sums-put : (s : CorrespondenceStats) (S : List Float) {T1 T2 T3 T4 T5 : List Float} → 16 ≤ length S
    → T1 ≡ vector_at S 0 s.sum_source
    → T2 ≡ vector_at T1 3 s.sum_target
    → T3 ≡ vector_at T2 6 s.sum_outer_x
    → T4 ≡ vector_at T3 9 s.sum_outer_y
    → T5 ≡ vector_at T4 12 s.sum_outer_z
    → set T5 15 s.sum_sq_error ≡ overwrite (sum_numbers s) S
sums-put s S room e1 e2 e3 e4 e5 =
    let N1 = vector_numbers s.sum_source in
    let N2 = N1 ++ vector_numbers s.sum_target in
    let N3 = N2 ++ vector_numbers s.sum_outer_x in
    let N4 = N3 ++ vector_numbers s.sum_outer_y in
    let N5 = N4 ++ vector_numbers s.sum_outer_z in
    let t1 = vector-more [] S 0 s.sum_source refl (omega arith) refl e1 in
    let t2 = vector-more N1 S 3 s.sum_target refl (omega arith) t1 e2 in
    let t3 = vector-more N2 S 6 s.sum_outer_x refl (omega arith) t2 e3 in
    let t4 = vector-more N3 S 9 s.sum_outer_y refl (omega arith) t3 e4 in
    let t5 = vector-more N4 S 12 s.sum_outer_z refl (omega arith) t4 e5 in
    ap (λ (l : List Float). set l 15 s.sum_sq_error) t5 ∙ one_more N5 S 15 s.sum_sq_error refl (omega arith)
