-- Document 01, "The tree": which points of a cloud are indexed, and the tree of a cloud. Definitions only.
use Rattle.std.specs.Prelude.{ℕ, suc, Bool, ◌&&◌, cond, List, [], ◌∷◌, length, Float}
use Rattle.bits.specs.Finite.{finite}
use Rattle.space.specs.declared.Point3f.{Point3f}
use Rattle.tree.specs.Slots.{Slot, slot}
use Rattle.tree.specs.Part.{Part}
use Rattle.tree.specs.Grow.{grow}

-- a cloud's numbers, three to a point; one or two left over are no point
unfoldable pub points : List Float → List Point3f
points [] = []
points (x ∷ []) = []
points (x ∷ y ∷ []) = []
points (x ∷ y ∷ z ∷ rest) = record { x = x; y = y; z = z } ∷ points rest

-- "three finite coordinates"
unfoldable pub finite_point : Point3f → Bool
unfolding finite
finite_point p = finite p.x && finite p.y && finite p.z

-- the finite ones among points, each with its place, counted from i
unfoldable pub finite_from : ℕ → List Point3f → List Slot
unfolding finite_point
finite_from i [] = []
finite_from i (p ∷ ps) = let rest = finite_from (suc i) ps in cond (finite_point p) (slot p i ∷ rest) rest

-- "Only points with three finite coordinates are indexed"
unfoldable pub indexed : List Float → List Slot
unfolding finite_from points
indexed cloud = finite_from 0 (points cloud)

-- the tree of a cloud: the build starts with axis x
unfoldable pub tree_of : List Float → Part
unfolding grow indexed
tree_of cloud = let ss = indexed cloud in grow (length ss) 0 ss
