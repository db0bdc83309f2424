-- What one step of gathering does to the lent lists. Definitions only.
use Rattle.std.specs.Prelude.{◌≡◌, cond, List, ℕ, suc, set, Float}
use Rattle.std.specs.Float.Ieee.{le}

-- slot i at the square d goes behind the n that are held, if it is within reach
pub record Kept (i : ℕ) (d reach : Float) (n : ℕ) (is : List ℕ) (ds : List Float) (n' : ℕ) (is' : List ℕ) (ds' : List Float) : Type 0 where
  pub count : n' ≡ cond (le d reach) (suc n) n
  pub indices : is' ≡ cond (le d reach) (set is n i) is
  pub distances : ds' ≡ cond (le d reach) (set ds n d) ds
