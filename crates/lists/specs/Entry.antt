-- Document 01, "k nearest" and "Radius": what a list holds, and its order. Definitions only.
use Rattle.std.specs.Prelude.{ℕ, Bool, cond, List, [], ◌∷◌, map, Float}
use Rattle.std.specs.Float.{binary32}
use Rattle.bits.specs.Key.{key}
use Rattle.bits.specs.Root.{root}
use Rattle.space.specs.declared.Point3f.{Point3f}
use Rattle.space.specs.Distance.{distance_squared}
use Rattle.tree.specs.Slots.{Slot}

-- an index with its squared distance
pub record Entry : Type 0 where
  pub index : ℕ
  pub distance : Float

unfoldable pub entry : Point3f → Slot → Entry
unfolding distance_squared
entry q n = record { index = n.index; distance = distance_squared q n.point }

-- "ordered by squared distance": its number in that order
unfoldable pub far : Entry → ℕ
unfolding key
far e = key e.distance

-- those that pass a test, in their order
unfoldable pub keep : {A : Type 0} → (A → Bool) → List A → List A
keep ok [] = []
keep ok (x ∷ xs) = let rest = keep ok xs in cond (ok x) (x ∷ rest) rest

-- what is handed out: indices, "Squared distances are handed out; roots by a second entry"
unfoldable pub indices_in : List Entry → List ℕ
indices_in es = map (λ e. e.index) es

unfoldable pub squares_in : List Entry → List Float
squares_in es = map (λ e. e.distance) es

unfoldable pub roots_in : List Entry → List Float
unfolding root
roots_in es = map (λ e. root binary32 e.distance) es
