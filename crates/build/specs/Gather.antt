-- What the functions say that gather the indexed points of a cloud. Definitions only.
use Rattle.std.specs.Prelude.{◌≡◌, List, ℕ, length, take, drop, Float}
use Rattle.tree.specs.Slots.{indices_of}
use Rattle.tree.specs.Cloud.{indexed}

-- the indexed points stand in front, in order
pub record Gathered (cloud : List Float) (m : ℕ) (l l' : List ℕ) : Type 0 where
  pub count : m ≡ length (indexed cloud)
  pub front : take m l' ≡ indices_of (indexed cloud)
  pub rest : drop m l' ≡ drop m l
