-- What the functions of the checking entry say. Definitions only.
use Rattle.std.specs.Prelude.{◌≡◌, Bool, true, false, ℕ, List, Float}
use Rattle.tree.specs.Slots.{point_at}
use Rattle.tree.specs.Part.{lent}
use Rattle.tree.specs.Cloud.{finite_point}
use Rattle.tree.proofs.Descent.{Reached}
use Rattle.select.specs.Order.{slot_of}

-- an answer that tells whether P holds
abbrev pub Decides : Bool → Type 0 → Type 0
Decides true P = P
Decides false P = P → ⊥

-- point i is reached from the root of the lent slots, if it is indexed
unfoldable pub Found : List Float → List Float → List ℕ → ℕ → Type 0
Found cloud coords indices i = finite_point (point_at cloud i) ≡ true → Reached 0 (slot_of cloud i) (lent coords indices)
