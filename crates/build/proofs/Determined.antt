-- Any two outcomes that an entry's contract allows are the same, the lent lists included. Assumes nothing.
use mathlib.Core.Path.{◌≡◌, sym, ◌∙◌}
use mathlib.Core.Bool.{Bool}
use mathlib.Core.List.{List}
use Prim.Native.Nat.{ℕ}
use lib.Ieee.{Float}
use Rattle.std.proofs.Common.{Result}
use Rattle.tree.specs.Refusal.{outcome_of}
use Rattle.tree.specs.declared.Refusal.{Refusal}
use Rattle.tree.proofs.Outcomes.{outcome-tells}
use Rattle.build.specs.Entries.{Builds, checking}

pub build-determined : (cloud cs : List Float) (is : List ℕ) (r r' : Result ℕ Refusal) (c1 c2 : List Float) (i1 i2 : List ℕ) → Builds cloud cs is r c1 i1
    → Builds cloud cs is r' c2 i2 → (r ≡ r') × (c1 ≡ c2) × (i1 ≡ i2)
build-determined cloud cs is r r' c1 c2 i1 i2 a b = (
  outcome-tells r r' (a.answer ∙ sym b.answer),
  a.coords ∙ sym b.coords,
  a.indices ∙ sym b.indices,
)

pub check-determined : (cloud cs : List Float) (is : List ℕ) (r r' : Result Bool Refusal) → outcome_of r ≡ checking cloud cs is → outcome_of r' ≡ checking cloud cs is → r ≡ r'
check-determined cloud cs is r r' a b = outcome-tells r r' (a ∙ sym b)
