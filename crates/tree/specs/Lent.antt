-- What is lent: the two lists of a tree, and the numbers of a cloud. Definitions only.
use Rattle.std.specs.Prelude.{◌≡◌, ℕ, ◌*◌, ◌≤◌, List, length, Float}
use Rattle.tree.specs.Refuse.{count}

pub record Lent : Type 0 where
  pub coords : List Float
  pub indices : List ℕ

-- three coordinates to a slot, and no more slots than a tree may have
pub record IsLent (coords : List Float) (indices : List ℕ) : Type 0 where
  pub even : length coords ≡ 3 * length indices
  pub few : length indices ≤ 1048576

-- three numbers to a point, and no more points than a cloud may have
pub record IsCloud (numbers : List Float) : Type 0 where
  pub whole : length numbers ≡ 3 * count numbers
  pub few : count numbers ≤ 1048576
