-- Document 01, "The tree": slots, and the flat lists in which they are lent. Definitions only.
use Rattle.std.specs.Prelude.{ℕ, ◌*◌, ◌+◌, ◌^◌, List, [], ◌∷◌, get_or, drop, Float}
use Rattle.std.specs.Float.{nan}
use Rattle.bits.specs.Key.{key}
use Rattle.space.specs.declared.Point3f.{Point3f}
use Rattle.space.specs.Distance.{on}

-- "Each slot holds three coordinates and the original index"
pub record Slot : Type 0 where
  pub point : Point3f
  pub index : ℕ

-- the one place in which a slot is made
abbrev pub slot : Point3f → ℕ → Slot
slot p i = record { point = p; index = i }

-- the point whose numbers stand at 3i, 3i + 1 and 3i + 2 of a flat list
abbrev pub point_at : List Float → ℕ → Point3f
point_at numbers i = record { x = get_or numbers (3 * i) nan; y = get_or numbers (3 * i + 1) nan; z = get_or numbers (3 * i + 2) nan }

-- what is read past the end of a list of slots
abbrev pub none : Slot
none = slot (point_at [] 0) 0

-- lent coordinates and indices, side by side: a slot for each index
unfoldable pub slots : List Float → List ℕ → List Slot
slots coords [] = []
slots coords (i ∷ indices) = slot (point_at coords 0) i ∷ slots (drop 3 coords) indices

-- and back: the numbers and the indices of slots
unfoldable pub numbers_of : List Slot → List Float
numbers_of [] = []
numbers_of (s ∷ ss) = s.point.x ∷ s.point.y ∷ s.point.z ∷ numbers_of ss

unfoldable pub indices_of : List Slot → List ℕ
indices_of [] = []
indices_of (s ∷ ss) = s.index ∷ indices_of ss

-- "Order on an axis: `total_cmp` of that coordinate (so -0 before +0), equals by lower original index": as one number, for indices below 2 ^ 32
unfoldable pub rank : ℕ → Slot → ℕ
rank axis s = key (on axis s.point) * 2 ^ 32 + s.index
