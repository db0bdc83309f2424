-- Document 01, "Refusal numbers": those of matching. Definitions only.
use Rattle.std.specs.Prelude.{◌≡◌, ℕ, ◌*◌, ◌≤◌, ◌<◌, Bool, false, ◌||◌, List, length, Float}
use Rattle.tree.specs.Refuse.{Outcome, refuse, ragged, uneven, mismatched, too_many, count, has_none, any_entry_outside, any_index_outside}

-- "Tested in the order 1, 2, 4, 3, 5"; no lent output of matching can be too short, so that 3 can't be met
abbrev pub in_order : {A : Type 0} → Bool → Bool → Bool → Bool → Outcome A → Outcome A
in_order one two four five next = refuse 1 one (refuse 2 two (refuse 4 four (refuse 5 five next)))

module _ (source target coords : List Float) (indices matches : List ℕ) where
  abbrev pub one : Bool
  one = ragged source || ragged target || uneven coords indices || mismatched source matches

  abbrev pub two : Bool
  two = too_many (count source) || too_many (count target) || too_many (length indices) || too_many (length matches)

  abbrev pub four : Bool
  four = has_none source || has_none target

  abbrev pub five : Bool
  five = any_entry_outside (count target) matches || any_index_outside (count target) indices

  -- matching's refusals, before what it gives
  abbrev pub on_matching : {A : Type 0} → Outcome A → Outcome A
  on_matching next = in_order one two four five next

-- what the code behind the refusals goes by: the lengths fit, there is a target point, and each seed and each index of the tree names a target point
pub record Clear (source target coords : List Float) (indices matches : List ℕ) : Type 0 where
  pub source_whole : length source ≡ 3 * length matches
  pub target_whole : length target ≡ 3 * count target
  pub tree_whole : length coords ≡ 3 * length indices
  pub some_target : 0 < count target
  pub few_targets : count target ≤ 1048576
  pub few_slots : length indices ≤ 1048576
  pub few_matches : length matches ≤ 1048576
  pub seeds_inside : any_entry_outside (count target) matches ≡ false
  pub indices_inside : any_index_outside (count target) indices ≡ false
