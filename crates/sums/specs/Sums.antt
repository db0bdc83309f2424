-- Document 01, "Matching, sums and frames": "Source points are cut in runs of 512; each run sums from zero in order, runs are then added first to last." Definitions only.
use Rattle.std.specs.Prelude.{ℕ, zero, suc, cond, List, [], ◌∷◌, eqb, length, take, drop, Float}
use Rattle.tree.specs.Slots.{Slot, point_at, slots}
use Rattle.tree.specs.Refuse.{no_match}
use Rattle.sums.specs.declared.CorrespondenceStats.{CorrespondenceStats}
use Rattle.sums.specs.Stats.{zero_sums, add_pair, merge_sums}

-- A source point beside its match entry: where there is a match, one pair more.
unfoldable pub add_entry : List Float → CorrespondenceStats → Slot → CorrespondenceStats
unfolding add_pair
add_entry target s c =
    let more = add_pair s c.point (point_at target c.index) in
    cond (eqb c.index no_match) s more

-- in order, first to last
unfoldable pub add_entries : List Float → CorrespondenceStats → List Slot → CorrespondenceStats
unfolding add_entry
add_entries target s [] = s
add_entries target s (c ∷ cs) = add_entries target (add_entry target s c) cs

-- a list in runs of n, the last of what is left; f is at least its length
unfoldable pub cut : {A : Type 0} → ℕ → ℕ → List A → List (List A)
cut n zero xs = []
cut n (suc f) [] = []
cut n (suc f) (x ∷ xs) = take n (x ∷ xs) ∷ cut n f (drop n (x ∷ xs))

-- "each run sums from zero in order, runs are then added first to last"
unfoldable pub add_runs : List Float → CorrespondenceStats → List (List Slot) → CorrespondenceStats
unfolding add_entries merge_sums
add_runs target s [] = s
add_runs target s (run ∷ runs) = add_runs target (merge_sums s (add_entries target zero_sums run)) runs

-- the sums of source points beside their match entries, in runs of n
unfoldable pub sums_by : ℕ → List Float → List Slot → CorrespondenceStats
unfolding cut add_runs
sums_by n target cs = add_runs target zero_sums (cut n (length cs) cs)

abbrev pub run_length : ℕ
run_length = 512

unfoldable pub sums : List Float → List Float → List ℕ → CorrespondenceStats
unfolding sums_by slots
sums source target matches = sums_by run_length target (slots source matches)
