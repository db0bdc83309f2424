-- Each entry's promise fixes its answer: two answers that it allows are the same. Assumes nothing.
use mathlib.Core.Path.{◌≡◌, sym, ◌∙◌}
use mathlib.Core.List.{List}
use Prim.Native.Nat.{ℕ}
use lib.Ieee.{Float}
use Rattle.std.proofs.Common.{Result}
use Rattle.tree.specs.Refusal.{outcome_of}
use Rattle.tree.specs.declared.Refusal.{Refusal}
use Rattle.tree.proofs.Outcomes.{outcome-tells}
use Rattle.sums.specs.declared.CorrespondenceStats.{CorrespondenceStats}
use Rattle.sums.specs.Entries.{sums_in}

-- `CorrespondenceStats::collect`
pub collect-determined : (source target : List Float) (matches : List ℕ) (r s : Result CorrespondenceStats Refusal)
    → outcome_of r ≡ sums_in source target matches → outcome_of s ≡ sums_in source target matches → r ≡ s
collect-determined source target matches r s p q = outcome-tells r s (p ∙ sym q)
