-- Document 01, "k nearest". Definitions only.
use Rattle.std.specs.Prelude.{ℕ, zero, suc, Bool, cond, List, [], ◌∷◌, map, take, Float}
use Rattle.std.specs.Float.Ieee.{lt}
use Rattle.bits.specs.Constants.{infinite}
use Rattle.space.specs.declared.Point3f.{Point3f}
use Rattle.tree.specs.Slots.{Slot}
use Rattle.tree.specs.Part.{Part}
use Rattle.tree.specs.Sort.{sort}
use Rattle.tree.specs.Walk.{order, walk}
use Rattle.lists.specs.Entry.{Entry, entry, far, keep}

-- an entry goes before the first that is farther: those at the same distance that came earlier stay in front of it
unfoldable pub place : Entry → List Entry → List Entry
unfolding lt
place e [] = e ∷ []
place e (f ∷ es) = let rest = place e es in cond (lt e.distance f.distance) (e ∷ f ∷ es) (f ∷ rest)

-- "the k-th distance held (infinity while fewer are held)", counted from 1
unfoldable pub kth : ℕ → List Entry → Float
kth zero es = infinite
kth (suc k) [] = infinite
kth (suc zero) (e ∷ es) = e.distance
kth (suc (suc k)) (e ∷ es) = kth (suc k) es

-- a node's entry is taken when it is below the k-th distance held, and the farthest goes
unfoldable pub offer : ℕ → Point3f → Slot → List Entry → List Entry
unfolding entry kth place
offer k q n es =
    let e = entry q n in
    let more = take k (place e es) in
    cond (lt e.distance (kth k es)) more es

-- "entered for k only when a·a is below the k-th distance held"
unfoldable pub below_kth : ℕ → Float → List Entry → Bool
unfolding kth
below_kth k plane es = lt plane (kth k es)

-- the pruned walk, on any part
unfoldable pub k_nearest : Point3f → ℕ → Part → List Entry
unfolding walk offer below_kth
k_nearest q k t = walk (offer k q) (below_kth k) q 0 t []

-- "with distance below infinity"
unfoldable pub below_infinity : Entry → Bool
below_infinity e = lt e.distance infinite

-- what it must be on a built tree: "The first k of all indexed points with distance below infinity, ordered by squared distance, ties in near-first order"
unfoldable pub k_nearest_all : Point3f → ℕ → Part → List Entry
unfolding keep below_infinity entry order sort far
k_nearest_all q k t = take k (sort far (keep below_infinity (map (entry q) (order q 0 t))))
