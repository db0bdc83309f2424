-- What each entry promises of its result and of every lent number afterwards; by `proofs/Determined.antt` each fixes both. Definitions only.
use Rattle.std.specs.Prelude.{◌≡◌, ℕ, ◌*◌, ◌≤◌, ◌<◌, false, List, length, get_or, Result, Ok, Float, Option}
use Rattle.bits.specs.Constants.{infinite}
use Rattle.space.specs.Exact.{Tame, exact}
use Rattle.tree.specs.Refuse.{returned, left, count, no_match, any_entry_outside}
use Rattle.tree.specs.Refusal.{outcome_of}
use Rattle.tree.specs.declared.Refusal.{Refusal}
use Rattle.tree.specs.Slots.{point_at}
use Rattle.search.specs.declared.Nearest.{Nearest}
use Rattle.search.specs.Demands.{IsTree, near_first, Demand2}
use Rattle.matching.specs.Limit.{bound_of}
use Rattle.matching.specs.Pairs.{pairs_in}
use Rattle.matching.specs.TargetPoint.{part_at, place_of}
use Rattle.matching.specs.Matching.{seed_of, match_of, match_in}

-- `target_point` of a cloud that begins at a place: the part that it hands back, and where that begins
pub record HandsPart (start : ℕ × ℕ) (cloud : List Float) (index : ℕ) (place : ℕ × ℕ) (part : List Float) : Type 0 where
  pub holds : part ≡ part_at cloud index
  pub stands : place ≡ place_of start cloud index

-- `correspondence_pairs`: the result r and the two lists afterwards
pub record ListsPairs (matches sources targets : List ℕ) (r : Result ℕ Refusal) (sources' targets' : List ℕ) : Type 0 where
  pub returns : outcome_of r ≡ returned (λ w. w.number) (pairs_in matches sources targets)
  pub sources_left : sources' ≡ left (λ w. w.sources) sources (pairs_in matches sources targets)
  pub targets_left : targets' ≡ left (λ w. w.targets) targets (pairs_in matches sources targets)

-- the answer to which the entry m of a source point came, from its seed s: demand 2 holds of it
pub record Answered2 (source target : List Float) (bound : Float) (i s m : ℕ) : Type 0 where
  pub answer : Nearest
  pub is_entry : m ≡ match_of answer
  pub demand : Demand2 (point_at source i) (near_first target (point_at source i)) bound (seed_of target (point_at source i) s) answer

-- demand 3 of the entry m: a target point that no other is nearer than, exactly, but for one part in 2 ^ 20
pub record Nearest3 (source target : List Float) (i m : ℕ) : Type 0 where
  pub within : m < count target
  pub nearest : (j : ℕ) → j < count target → exact (point_at source i) (point_at target m) * 1048576 ≤ exact (point_at source i) (point_at target j) * 1048577

abbrev pub done : List ℕ → Unit {0}
done matches = tt

-- `find_correspondences_seeded`: the result r and the match list afterwards, for any slots
pub record Matches (source target coords : List Float) (indices : List ℕ) (limit : Option Float) (matches : List ℕ) (r : Result (Unit {0}) Refusal) (matches' : List ℕ) : Type 0 where
  pub returns : outcome_of r ≡ returned done (match_in source target coords indices limit matches)
  pub list_left : matches' ≡ left (λ l. l) matches (match_in source target coords indices limit matches)
  -- every entry is no match or names a target point, so that the list can be lent again
  pub inside : r ≡ Ok tt → any_entry_outside (count target) matches' ≡ false
  -- and where the slots are the tree of the target: demand 2 of every entry
  pub demand2 : r ≡ Ok tt → IsTree target coords indices → (i : ℕ) → i < length matches → Answered2 source target (bound_of limit) i (get_or matches i 0) (get_or matches' i 0)
  -- demand 3 of every entry without a seed, under no limit or one that comes to none
  pub demand3 : r ≡ Ok tt → IsTree target coords indices → ((j : ℕ) → j < count target → Tame (point_at target j)) → bound_of limit ≡ infinite
      → (i : ℕ) → i < length matches → get_or matches i 0 ≡ no_match → Tame (point_at source i) → Nearest3 source target i (get_or matches' i 0)
