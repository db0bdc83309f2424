-- The pruned walk of any search: what a search is, where its walk begins and what it gives. Definitions only.
use Rattle.std.specs.Prelude.{◌≡◌, ℕ, ◌<◌, Bool, List, length, get_or, Float}
use Rattle.space.specs.declared.Point3f.{Point3f}
use Rattle.space.specs.Distance.{distance_squared}
use Rattle.tree.specs.Slots.{Slot}
use Rattle.tree.specs.Part.{lent}
use Rattle.tree.specs.Walk.{walk}
use Rattle.tree.proofs.Walk.{Falling}

-- a search from a query over slots of these indices: what it does at a slot, and when it enters a far part
pub record Rule (State : Type 0) : Type 0 where
  pub query : Point3f
  pub indices : List ℕ
  pub visit : Slot → State → State
  pub enters : Float → State → Bool

-- what is held after the walk over the lent slots
abbrev pub walked : {State : Type 0} → Rule State → List Float → State → State
walked rule coords held = walk rule.visit rule.enters rule.query 0 (lent coords rule.indices) held

-- n is the slot at `at`, d from the query
pub record Met {State : Type 0} (rule : Rule State) (at : ℕ) (d : Float) (n : Slot) : Type 0 where
  pub within : at < length rule.indices
  pub index : n.index ≡ get_or rule.indices at 0
  pub distance : d ≡ distance_squared rule.query n.point

-- The walk over m slots from q, where the search holds `held` and has room for all m. What is not entered now is not entered later:
-- so a far part need not wait that would not be entered at once.
pub record Begins {Self Asked State : Type 0} (rule : Asked → Rule State) (Holds : Asked → ℕ → Self → State → Type 0) (m : ℕ) (q : Point3f) (search : Self) (asked : Asked) (held : State) : Type 0 where
  pub from : (rule asked).query ≡ q
  pub over : length (rule asked).indices ≡ m
  pub falling : Falling (rule asked).visit (rule asked).enters
  pub holds : Holds asked m search held
