-- The entry: its refusals in the order in which they are tested, or the sums. Definitions only.
use Rattle.std.specs.Prelude.{◌||◌, List, ℕ, length, Float}
use Rattle.tree.specs.Refuse.{Outcome, gives, refuse, count, ragged, mismatched, too_many, any_entry_outside}
use Rattle.sums.specs.declared.CorrespondenceStats.{CorrespondenceStats}
use Rattle.sums.specs.Sums.{sums}

-- Sums of nothing are zero and are not refused, so there is no 4; nothing is lent for writing, so there is no 3.
unfoldable pub sums_in : List Float → List Float → List ℕ → Outcome CorrespondenceStats
unfolding any_entry_outside sums
sums_in source target matches =
    let s = sums source target matches in
    refuse 1 (ragged source || ragged target || mismatched source matches)
    (refuse 2 (too_many (count source) || too_many (count target) || too_many (length matches))
    (refuse 5 (any_entry_outside (count target) matches)
    (gives s)))
