-- k nearest as a pruned walk: what is asked, what has been seen, and how code holds the first k of it. Definitions only.
use Rattle.std.specs.Prelude.{◌≡◌, ℕ, ◌<◌, Bool, List, [], ◌∷◌, ◌++◌, map, take, Float}
use Rattle.space.specs.declared.Point3f.{Point3f}
use Rattle.tree.specs.Slots.{Slot}
use Rattle.tree.specs.Sort.{sort}
use Rattle.walk.specs.Pruned.{Rule}
use Rattle.lists.specs.Entry.{Entry, entry, far, keep}
use Rattle.lists.specs.KNearest.{below_infinity, below_kth}
use Rattle.lists.specs.Shift.{limit_of}
use Rattle.lists.specs.Lists.{Lists, Fronted}
use Rattle.lists.specs.declared.NearestHeld.{NearestHeld}

-- the entries below infinity of the slots seen, in the order in which they were met
unfoldable pub below : Point3f → List Slot → List Entry
unfolding keep below_infinity entry
below q seen = keep below_infinity (map (entry q) seen)

-- the first k of them
unfoldable pub first_of : ℕ → Point3f → List Slot → List Entry
unfolding below sort far
first_of k q seen = take k (sort far (below q seen))

abbrev pub see : Slot → List Slot → List Slot
see n seen = seen ++ (n ∷ [])

unfoldable pub judge : ℕ → Point3f → Float → List Slot → Bool
unfolding first_of below_kth
judge k q plane seen = below_kth k plane (first_of k q seen)

-- what is asked, and the lent lists
pub record Asked : Type 0 where
  pub indices : List ℕ
  pub query : Point3f
  pub k : ℕ
  pub lists : Lists

abbrev pub rule : Asked → Rule (List Slot)
rule a = record { query = a.query; indices = a.indices; visit = see; enters = judge a.k a.query }

-- the lent lists hold the first k of what was seen
pub record Holds (asked : Asked) (search : NearestHeld) (seen : List Slot) : Type 0 where
  pub indices : search.indices.now ≡ asked.indices
  pub most : search.k ≡ asked.k
  pub some : 0 < asked.k
  pub limit : search.limit ≡ limit_of search.k search.count search.out_distances.now
  pub front : Fronted asked.lists asked.k (first_of asked.k asked.query seen) search.count search.out_indices.ghost_name search.out_indices.now search.out_distances.ghost_name search.out_distances.now
