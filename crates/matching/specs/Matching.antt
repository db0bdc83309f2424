-- Document 01, "Matching, sums and frames": matching. Definitions only.
use Rattle.std.specs.Prelude.{ℕ, cond, List, eqb, Float, Option}
use Rattle.space.specs.declared.Point3f.{Point3f}
use Rattle.space.specs.Distance.{distance_squared}
use Rattle.tree.specs.Refuse.{Outcome, gives, no_match}
use Rattle.tree.specs.Slots.{point_at}
use Rattle.search.specs.declared.Nearest.{Nearest}
use Rattle.search.specs.declared.Nearest.TheVariants.{Found, Nothing}
use Rattle.search.specs.Search.{searched}
use Rattle.matching.specs.Limit.{bound_of}
use Rattle.matching.specs.Entries.{entries_from}
use Rattle.matching.specs.Refusals.{on_matching}

-- "if its seed s is present, the seed's distance is taken to target point s"
unfoldable pub seed_of : List Float → Point3f → ℕ → Nearest
unfolding distance_squared
seed_of target q s = cond (eqb s no_match) Nothing (Found s (distance_squared q (point_at target s)))

-- "The entry becomes the index or no match."
abbrev pub match_of : Nearest → ℕ
match_of (Found i d) = i
match_of Nothing = no_match

module _ (source target coords : List Float) (indices : List ℕ) (bound : Float) where
  -- source point i with its seed s: "then bounded search under the bound of the limit that the call gives, or of no limit"
  unfoldable pub answer_for : ℕ → ℕ → Nearest
  unfolding seed_of searched
  answer_for i s = searched coords indices (point_at source i) bound (seed_of target (point_at source i) s)

  -- the match list afterwards, from the seeds that it held
  unfoldable pub match_all : List ℕ → List ℕ
  unfolding answer_for entries_from
  match_all seeds = entries_from (λ i s. match_of (answer_for i s)) 0 seeds

-- matching: its refusals, then the match list
unfoldable pub match_in : List Float → List Float → List Float → List ℕ → Option Float → List ℕ → Outcome (List ℕ)
unfolding match_all bound_of
match_in source target coords indices limit matches = on_matching source target coords indices matches (gives (match_all source target coords indices (bound_of limit) matches))
