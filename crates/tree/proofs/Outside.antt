-- Refusal 5: the rule as a test of every entry, and what it tells of each.
use Prim.Native.Nat.{ℕ, zero, suc, ◌<◌}
use native.Mathlib.Omega.{arith}
use mathlib.Core.Path.{◌≡◌, refl}
use mathlib.Core.Bool.{Bool, true, false, not, ◌&&◌, ◌||◌, true≢false}
use mathlib.Core.List.{List, [], ◌∷◌}
use lib.Dec.{ltb, eqb}
use lib.ListN.{length, get_or}
use borrow.Author.Tests.{ne_eqb, ltb-true, not-false}
use Rattle.std.specs.List.{list_any}
use Rattle.std.proofs.lemmas.List.Recursion.{same_from_clauses}
use Rattle.tree.specs.Refuse.{any_entry_outside, any_index_outside, no_match}

-- the rules of 5 are `any` of their tests
module _ (n : ℕ) where
  pub entries-any : (xs : List ℕ) → list_any (λ i. not (eqb i no_match) && not (ltb i n)) xs ≡ any_entry_outside n xs
  unfolding any_entry_outside
  entries-any = same_from_clauses _ _ (λ x r. (not (eqb x no_match) && not (ltb x n)) || r) refl (λ _ _. refl) (λ _ _. refl)

  pub indices-any : (xs : List ℕ) → list_any (λ i. not (ltb i n)) xs ≡ any_index_outside n xs
  unfolding any_index_outside
  indices-any = same_from_clauses _ _ (λ x r. not (ltb x n) || r) refl (λ _ _. refl) (λ _ _. refl)

pub neither : (a b : Bool) → (a || b) ≡ false → (a ≡ false) × (b ≡ false)
neither true b e = absurd (true≢false e)
neither false b e = (refl, e)

-- where none is outside, each that is present is inside
pub entry-below : (n : ℕ) (xs : List ℕ) (i : ℕ) → i < length xs → any_entry_outside n xs ≡ false → (get_or xs i 0 ≡ no_match → ⊥) → get_or xs i 0 < n
unfolding any_entry_outside
entry-below n [] i h e g = absurd (omega arith)
entry-below n (x ∷ xs) zero h e g =
    let f = (neither (not (eqb x no_match) && not (ltb x n)) (any_entry_outside n xs) e).0 in ltb-true x n (not-false (ltb x n) (rw (ne_eqb x no_match g) at f))
entry-below n (x ∷ xs) (suc i) h e g = entry-below n xs i (omega arith) (neither (not (eqb x no_match) && not (ltb x n)) (any_entry_outside n xs) e).1 g
