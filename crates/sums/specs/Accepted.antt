-- What holds of the three lists once no refusal is met: the fact that `Matched` keeps.
use Rattle.std.specs.Prelude.{ℕ, ◌*◌, ◌≤◌, ◌≡◌, false, List, length, Float}
use Rattle.tree.specs.Refuse.{most_points, count, any_entry_outside}

pub record Accepted (source target : List Float) (matches : List ℕ) : Type 0 where
  pub each : 3 * length matches ≤ length source
  pub few : length matches ≤ most_points
  pub inside : any_entry_outside (count target) matches ≡ false
