-- Document 01, "Bounded search": the search on any lent slots, the pruning included, and the rule of each entry. Definitions only.
use Rattle.std.specs.Prelude.{ℕ, Bool, cond, List, Float}
use Rattle.std.specs.Float.Ieee.{lt}
use Rattle.bits.specs.Constants.{infinite}
use Rattle.space.specs.declared.Point3f.{Point3f}
use Rattle.space.specs.Distance.{distance_squared}
use Rattle.tree.specs.Refuse.{Outcome, gives, on_tree}
use Rattle.tree.specs.Slots.{Slot}
use Rattle.tree.specs.Part.{lent}
use Rattle.tree.specs.Walk.{walk}
use Rattle.search.specs.declared.Nearest.{Nearest}
use Rattle.search.specs.declared.Nearest.TheVariants.{Found, Nothing}

-- the distance that stands as best: that of the best, or "the bound itself"
abbrev pub limit : Float → Nearest → Float
limit bound (Found i d) = d
limit bound Nothing = bound

-- "The seed, if its distance is below the bound, is the first best; else the bound itself stands as best."
abbrev pub first_best : Float → Nearest → Nearest
first_best bound (Found i d) = cond (lt d bound) (Found i d) Nothing
first_best bound Nothing = Nothing

-- "A node replaces the best only when strictly nearer."
abbrev pub replaces : Float → ℕ → Float → Nearest → Nearest
replaces bound i d best = cond (lt d (limit bound best)) (Found i d) best

abbrev pub visit : Point3f → Float → Slot → Nearest → Nearest
visit q bound n best = replaces bound n.index (distance_squared q n.point) best

-- "A far part is judged when its near part is done; if its a·a is not below the best then, it is not entered."
abbrev pub enters : Float → Float → Nearest → Bool
enters bound plane best = lt plane (limit bound best)

-- the pruned walk from a first best on
unfoldable pub walked : List Float → List ℕ → Point3f → Float → Nearest → Nearest
unfolding walk lent
walked coords indices q bound first = walk (visit q bound) (enters bound) q 0 (lent coords indices) first

-- the search on any slots: "fixed by a definition that holds the pruning"
unfoldable pub searched : List Float → List ℕ → Point3f → Float → Nearest → Nearest
unfolding walked
searched coords indices q bound seed = walked coords indices q bound (first_best bound seed)

-- bounded search as an entry: refusals 1 and 2 of the tree, then the search
unfoldable pub bounded : List Float → List ℕ → Point3f → Float → Nearest → Outcome Nearest
unfolding searched
bounded coords indices q bound seed = on_tree coords indices (gives (searched coords indices q bound seed))

-- "Unbounded search has bound infinity and no seed"
unfoldable pub unbounded : List Float → List ℕ → Point3f → Outcome Nearest
unfolding bounded
unbounded coords indices q = bounded coords indices q infinite Nothing
