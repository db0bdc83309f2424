-- Each entry's promise fixes its result and every lent number afterwards: two outcomes that it allows are the same.
use Prim.Native.Nat.{ℕ}
use mathlib.Core.Path.{◌≡◌, sym, ◌∙◌}
use mathlib.Core.List.{List}
use lib.Ieee.{Float}
use Rattle.std.proofs.Common.{Result, Option}
use Rattle.tree.specs.declared.Refusal.{Refusal}
use Rattle.tree.proofs.Outcomes.{outcome-tells}
use Rattle.bits.proofs.Determined.{value-determined}
use Rattle.matching.specs.Limit.{bound_of}
use Rattle.matching.specs.Promises.{HandsPart, ListsPairs, Matches}

-- `max_distance_sq`
pub bound-determined : (limit : Option Float) (r s : Float) → r ≡ bound_of limit → s ≡ bound_of limit → r ≡ s
bound-determined limit r s = value-determined

-- `target_point`: which part, and what it holds
pub part-determined : (start : ℕ × ℕ) (cloud : List Float) (index : ℕ) (p q : ℕ × ℕ) (r s : List Float)
    → HandsPart start cloud index p r → HandsPart start cloud index q s → (p ≡ q) × (r ≡ s)
part-determined start cloud index p q r s a b = (a.stands ∙ sym b.stands, a.holds ∙ sym b.holds)

-- `correspondence_pairs`
pub pairs-determined : (matches sources targets : List ℕ) (r s : Result ℕ Refusal) (A B C D : List ℕ)
    → ListsPairs matches sources targets r A B → ListsPairs matches sources targets s C D → (r ≡ s) × (A ≡ C) × (B ≡ D)
pairs-determined matches sources targets r s A B C D a b =
    (outcome-tells r s (a.returns ∙ sym b.returns), a.sources_left ∙ sym b.sources_left, a.targets_left ∙ sym b.targets_left)

-- `find_correspondences_seeded`
pub matches-determined : (source target coords : List Float) (indices : List ℕ) (limit : Option Float) (matches : List ℕ) (r s : Result (Unit {0}) Refusal) (A B : List ℕ)
    → Matches source target coords indices limit matches r A → Matches source target coords indices limit matches s B → (r ≡ s) × (A ≡ B)
matches-determined source target coords indices limit matches r s A B a b = (outcome-tells r s (a.returns ∙ sym b.returns), a.list_left ∙ sym b.list_left)
