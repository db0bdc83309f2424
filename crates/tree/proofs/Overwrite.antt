-- What is written over the front of a list. Assumes nothing.
use Prim.Native.Nat.{ℕ, ◌+◌, ◌≤◌, ◌<◌}
use native.Mathlib.Nat.{add-zero, add-sub_of_le, not-suc-le-zero}
use native.Mathlib.Omega.{arith}
use mathlib.Core.Path.{◌≡◌, refl, ap, ◌∙◌, subst}
use mathlib.Core.List.{List, [], ◌∷◌, ◌++◌}
use lib.ListN.{length, drop, set, get_or, length-append, length-drop}
use lib.Seq.{get_or-append-add, get_or-drop}
use Rattle.tree.specs.Refuse.{overwrite}

module _ {A : Type 0} where
  -- one element more
  pub over-one : (N S : List A) (x : A) → length N < length S → overwrite (N ++ (x ∷ [])) S ≡ set (overwrite N S) (length N) x
  over-one [] [] x h = absurd (not-suc-le-zero h)
  over-one [] (s ∷ S) x h = refl
  over-one (n ∷ N) [] x h = absurd (not-suc-le-zero h)
  over-one (n ∷ N) (s ∷ S) x h = ap (λ (l : List A). n ∷ l) (over-one N S x (omega arith))

  pub length_over : (N S : List A) → length N ≤ length S → length (overwrite N S) ≡ length S
  length_over N S h = length-append N (drop (length N) S) ∙ ap (λ (k : ℕ). length N + k) (length-drop (length N) S) ∙ add-sub_of_le h

  -- behind what is written the list is as it was
  pub over-seam : (N S : List A) (d : A) → get_or (overwrite N S) (length N) d ≡ get_or S (length N) d
  over-seam N S d =
      subst (λ (k : ℕ). get_or (overwrite N S) k d ≡ get_or S k d) (add-zero (length N)) (get_or-append-add N (drop (length N) S) 0 d ∙ get_or-drop (length N) S 0 d)
