-- Document 01, "Radius". Definitions only.
use Rattle.std.specs.Prelude.{Bool, cond, List, [], ◌∷◌, ◌++◌, map, Float}
use Rattle.std.specs.Float.Ieee.{lt, le}
use Rattle.bits.specs.Constants.{nought}
use Rattle.space.specs.declared.Point3f.{Point3f}
use Rattle.space.specs.Distance.{square}
use Rattle.tree.specs.Slots.{Slot}
use Rattle.tree.specs.Part.{Part}
use Rattle.tree.specs.Sort.{sort}
use Rattle.tree.specs.Walk.{order, walk}
use Rattle.lists.specs.Entry.{Entry, entry, far, keep}

-- "squared distance <= r·r (computed)"
unfoldable pub within : Float → Entry → Bool
within r e = le e.distance (square r)

-- a node's entry is gathered behind those gathered before it
unfoldable pub gather : Float → Point3f → Slot → List Entry → List Entry
unfolding entry within
gather r q n es =
    let e = entry q n in
    let more = es ++ (e ∷ []) in
    cond (within r e) more es

-- "entered .. for radius only when a·a <= r·r"
unfoldable pub plane_within : Float → Float → List Entry → Bool
plane_within r plane es = le plane (square r)

-- "Radius <= 0 or NaN gives an empty list"
unfoldable pub usable : Float → Bool
usable r = lt nought r

-- the pruned walk, on any part; "Ordered by squared distance, ties near-first"
unfoldable pub in_radius : Point3f → Float → Part → List Entry
unfolding usable walk gather plane_within sort far
in_radius q r t =
    let es = sort far (walk (gather r q) (plane_within r) q 0 t []) in
    cond (usable r) es []

-- what it must be on a built tree: "every indexed point with squared distance <= r·r"
unfoldable pub in_radius_all : Point3f → Float → Part → List Entry
unfolding usable sort far keep within entry order
in_radius_all q r t =
    let es = sort far (keep (within r) (map (entry q) (order q 0 t))) in
    cond (usable r) es []
