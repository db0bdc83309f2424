-- Document 01, "Matching, sums and frames": "For each source point in order". Definitions only.
use Rattle.std.specs.Prelude.{ℕ, suc, List, [], ◌∷◌}

-- the match list after matching from the seeds before: each place's entry by its own seed; the first place is i
module _ (entry : ℕ → ℕ → ℕ) where
  unfoldable pub entries_from : ℕ → List ℕ → List ℕ
  entries_from i [] = []
  entries_from i (s ∷ seeds) = entry i s ∷ entries_from (suc i) seeds
