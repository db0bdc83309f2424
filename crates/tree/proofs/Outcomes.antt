-- An outcome tells the answer: no two refusals have one number. Assumes nothing.
use Rattle.std.proofs.Common.{◌≡◌, ℕ, ◌*◌, ◌%◌, ◌≤◌, length, Bool, true, false, cond, eqb, List, Float, Result, Ok, Err, IsErrAnd, refl, sym, ap, ◌∙◌, arith}
use borrow.Author.Tests.{eqb-true, ltb-false, not-false}
use Rattle.std.proofs.lemmas.Result.{err_from_is_err_and}
use Rattle.tree.specs.Refuse.{Outcome, refused, gives, refuse, on_cloud, on_tree, ragged, uneven, too_many, count, most_points}
use Rattle.tree.specs.Refusal.{number_of, outcome_of}
use Rattle.tree.specs.declared.Refusal.{Refusal}
use Rattle.tree.specs.declared.Refusal.TheVariants.{UnfitLengths, TooMany, ShortOutput, NothingToMatch, OutsideIndex}

-- the refusal of a number
abbrev refusal_of : ℕ → Refusal
refusal_of n = cond (eqb n 1) UnfitLengths (cond (eqb n 2) TooMany (cond (eqb n 3) ShortOutput (cond (eqb n 4) NothingToMatch OutsideIndex)))

refusal_of-number_of : (e : Refusal) → refusal_of (number_of e) ≡ e
refusal_of-number_of UnfitLengths = refl
refusal_of-number_of TooMany = refl
refusal_of-number_of ShortOutput = refl
refusal_of-number_of NothingToMatch = refl
refusal_of-number_of OutsideIndex = refl

number_tells : (e f : Refusal) → number_of e ≡ number_of f → e ≡ f
number_tells e f h = sym (refusal_of-number_of e) ∙ ap refusal_of h ∙ refusal_of-number_of f

pub never : {A : Type 0} {n : ℕ} {a : A} → refused n ≡ gives a → ⊥
never e = let z : ◌≡◌ {A = ℕ} 0 1 = cc in omega arith

module _ {A : Type 0} where
  pub outcome-tells : (r s : Result A Refusal) → outcome_of r ≡ outcome_of s → r ≡ s
  outcome-tells (Ok a) (Ok b) e = cc
  outcome-tells (Ok a) (Err f) e = absurd (never (sym e))
  outcome-tells (Err e) (Ok b) h = absurd (never h)
  outcome-tells (Err e) (Err f) h = let k : number_of e ≡ number_of f = cc in ap Err (number_tells e f k)

-- ---- a refusal handed on by `?`

module _ {A B : Type 0} where
  -- what comes after an outcome that gives
  abbrev pub and_then : Outcome A → Outcome B → Outcome B
  and_then (refused n) next = refused n
  and_then (gives a) next = next

  pub refuse-and_then : (n : ℕ) (b : Bool) (o : Outcome A) (next : Outcome B) → and_then (refuse n b o) next ≡ refuse n b (and_then o next)
  refuse-and_then n true o next = refl
  refuse-and_then n false o next = refl

  -- an answer to the lines of a cloud or of a tree tells what those lines do before anything else
  module _ {o : Outcome A} (a : A) (next : Outcome B) where
    pub cloud-told : (cloud : List Float) → o ≡ on_cloud cloud (gives a) → and_then o next ≡ on_cloud cloud next
    cloud-told cloud told = ap (λ (o : Outcome A). and_then o next) told ∙ simp refuse-and_then

    pub tree-told : (coords : List Float) (indices : List ℕ) → o ≡ on_tree coords indices (gives a) → and_then o next ≡ on_tree coords indices next
    tree-told coords indices told = ap (λ (o : Outcome A). and_then o next) told ∙ simp refuse-and_then

-- ---- an answer that gives tells that no line refused

module _ {A : Type 0} {a p : A} where
  unrefused : (n m : ℕ) (b c : Bool) → gives p ≡ refuse n b (refuse m c (gives a)) → (b ≡ false) × (c ≡ false) × (p ≡ a)
  unrefused n m true c e = absurd (never (sym e))
  unrefused n m false true e = absurd (never (sym e))
  unrefused n m false false e = (refl, refl, cc)

  pub cloud-given : (cloud : List Float) → gives p ≡ on_cloud cloud (gives a) → (length cloud % 3 ≡ 0) × (count cloud ≤ most_points) × (p ≡ a)
  cloud-given cloud e =
      let u = unrefused 1 2 (ragged cloud) (too_many (count cloud)) e in
      (eqb-true _ _ (not-false _ u.0), ltb-false _ _ u.1, u.2)

  pub tree-given : (coords : List Float) (indices : List ℕ) → gives p ≡ on_tree coords indices (gives a)
      → (length coords ≡ 3 * length indices) × (length indices ≤ most_points) × (p ≡ a)
  tree-given coords indices e =
      let u = unrefused 1 2 (uneven coords indices) (too_many (length indices)) e in
      (eqb-true _ _ (not-false _ u.0), ltb-false _ _ u.1, u.2)

-- what `?` returns
pub handed_on : {B : Type 0} (e : Refusal) (r : Result B Refusal) → IsErrAnd r (λ f. f ≡ e) → r ≡ Err e
handed_on e r h = let p = err_from_is_err_and r h in p.1 ∙ ap Err p.2
