-- A table over the definitions: 01's cloud K, as a search sees it at two nodes. Every row is by computation.
use mathlib.Core.Path.{◌≡◌, refl}
use mathlib.Core.Bool.{true, false}
use mathlib.Core.List.{List, [], ◌∷◌}
use Prim.Native.Nat.{ℕ}
use lib.IntN.{pos}
use lib.Ieee.{Float, fin, add, sub, mul, neg, sum, round, le, lt, eq}
use Rattle.space.specs.declared.Point3f.{Point3f}
use Rattle.space.specs.Distance.{distance_squared, apart, left_is_near}
use Rattle.walk.specs.Node.{left_of, right_of, node_of, waits}
use Rattle.walk.specs.declared.Group.{Group}
use Rattle.walk.specs.declared.Waiting.{Waiting}

abbrev o : Float
o = fin false 0 (pos 0)

abbrev i : Float
i = fin false 1 (pos 0)

abbrev ii : Float
ii = fin false 1 (pos 1)

abbrev iv : Float
iv = fin false 1 (pos 2)

abbrev v : Float
v = fin false 5 (pos 0)

-- K's tree, as lent
abbrev K : List Float
K = o ∷ v ∷ o ∷ o ∷ o ∷ o ∷ i ∷ o ∷ o ∷ ii ∷ o ∷ o ∷ []

abbrev group : ℕ → ℕ → ℕ → Group
group s n a = record { start = s; len = n; axis = a }

abbrev far : Group → Float → Waiting
far g p = record { group = g; plane_sq = p }

abbrev at : Float → Float → Point3f
at x y = record { x = x; y = y; z = o }

record Table : Type 0 where
  -- "children follow from the counts": of 4 slots one is the left part and two are the right, one level deeper
  lefts : (left_of (group 3 4 1) ≡ group 4 1 2) × (left_of (group 3 1 2) ≡ group 4 0 0)
  rights : (right_of (group 3 4 1) ≡ group 5 2 2) × (right_of (group 3 1 2) ≡ group 4 0 0)
  -- the root (0, 5, 0) seen from (2, 1, 0): a = 2, so that the right is near, and the plane stands at 4
  root : node_of K (at ii i) (group 0 4 0) ≡ record { distance_sq = fin false 5 (pos 2); near = group 2 2 1; far = far (group 1 1 1) iv }
  -- slot 2, (1, 0, 0), on y seen from (2, -2, 0): a = -2, so that the left is near
  deeper : node_of K (at ii (fin true 1 (pos 1))) (group 2 2 1) ≡ record { distance_sq = v; near = group 3 0 2; far = far (group 3 1 2) iv }
  -- a far part waits if it has slots and would be entered
  waiting : (waits (far (group 3 1 2) iv) true ≡ true) × (waits (far (group 3 1 2) iv) false ≡ false) × (waits (far (group 3 0 2) iv) true ≡ false)

table : Table
unfolding distance_squared apart left_is_near add sub mul neg sum round le lt eq
table =
    record {
      lefts = (refl, refl);
      rights = (refl, refl);
      root = refl;
      deeper = refl;
      waiting = (refl, refl, refl);
    }
