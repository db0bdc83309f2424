-- A table over the definitions: 01's examples 8 and 9, ties, room, the order of the refusals, and slots that are no tree. Every row is by computation.
use mathlib.Core.Path.{◌≡◌, refl}
use mathlib.Core.Bool.{true, false}
use mathlib.Core.List.{List, [], ◌∷◌}
use Prim.Native.Nat.{ℕ}
use lib.IntN.{pos, negsuc}
use lib.Ieee.{Float, nan, inf, fin, add, sub, mul, neg, sum, round, units, odd, size, le, lt, eq, to_bits}
use Rattle.bits.specs.Key.{key}
use Rattle.bits.specs.Root.{root, whole_root, root_digits}
use Rattle.space.specs.declared.Point3f.{Point3f}
use Rattle.space.specs.Distance.{distance_squared, apart, left_is_near}
use Rattle.tree.specs.Refuse.{Outcome, refused, gives, returned}
use Rattle.tree.specs.Slots.{slots}
use Rattle.tree.specs.Part.{Part, part_of, lent}
use Rattle.tree.specs.Sort.{sort, insert}
use Rattle.tree.specs.Walk.{order, walk}
use Rattle.lists.specs.Entry.{Entry, entry, far, keep, indices_in, squares_in, roots_in}
use Rattle.lists.specs.KNearest.{place, kth, offer, below_kth, k_nearest, below_infinity, k_nearest_all}
use Rattle.lists.specs.Radius.{within, gather, plane_within, usable, in_radius, in_radius_all}
use Rattle.lists.specs.Shift.{shifted, spot, staying, limit_of}
use Rattle.lists.specs.Entries.{on_lists, nearest_listing, Written}
use Rattle.std.proofs.Common.{Ok, Err}
use Rattle.tree.specs.declared.Refusal.TheVariants.{ShortOutput}

abbrev o : Float
o = fin false 0 (pos 0)

abbrev i : Float
i = fin false 1 (pos 0)

abbrev ii : Float
ii = fin false 1 (pos 1)

abbrev iii : Float
iii = fin false 3 (pos 0)

abbrev iv : Float
iv = fin false 1 (pos 2)

abbrev v : Float
v = fin false 5 (pos 0)

abbrev half : Float
half = fin false 1 (negsuc 0)

abbrev quarter : Float
quarter = fin false 1 (negsuc 1)

abbrev 1½ : Float
1½ = fin false 3 (negsuc 0)

abbrev at : Float → Float → Point3f
at x y = record { x = x; y = y; z = o }

-- the tree of 01's cloud K, as lent
abbrev K : List Float
K = o ∷ v ∷ o ∷ o ∷ o ∷ o ∷ i ∷ o ∷ o ∷ ii ∷ o ∷ o ∷ []

abbrev of_k : List ℕ
of_k = 3 ∷ 1 ∷ 0 ∷ 2 ∷ []

abbrev tree_k : Part
tree_k = lent K of_k

-- slots that are no tree: the root at 0, its left part at 1.125, its right part at 3
abbrev no_tree : Part
no_tree = lent (o ∷ o ∷ o ∷ fin false 9 (negsuc 2) ∷ o ∷ o ∷ iii ∷ o ∷ o ∷ []) (5 ∷ 6 ∷ 7 ∷ [])

-- a point whose squared distance from 0 is past f32
abbrev beyond : Part
beyond = lent (fin false 1 (pos 64) ∷ o ∷ o ∷ []) (5 ∷ [])

-- the root and its left part at the same place
abbrev on_plane : Part
on_plane = lent (i ∷ o ∷ o ∷ i ∷ o ∷ o ∷ v ∷ o ∷ o ∷ []) (1 ∷ 0 ∷ 2 ∷ [])

abbrev nearest_k : ℕ → List ℕ → List Float → Outcome (List ℕ)
nearest_k k is ds = returned indices_in (nearest_listing K of_k (at i i) k is ds)

abbrev pair : ℕ → Float → Entry
pair n d = record { index = n; distance = d }

record Table : Type 0 where
  -- example 8, and its first three
  example-8 : k_nearest (at i i) 4 tree_k ≡ pair 0 i ∷ pair 2 ii ∷ pair 1 ii ∷ pair 3 (fin false 17 (pos 0)) ∷ []
  first_three : indices_in (k_nearest (at i i) 3 tree_k) ≡ 0 ∷ 2 ∷ 1 ∷ []
  first : indices_in (k_nearest (at i i) 1 tree_k) ≡ 0 ∷ []
  none : k_nearest (at i i) 0 tree_k ≡ []
  -- "with distance below infinity"
  not_beyond : (k_nearest (at o o) 1 beyond ≡ []) × (k_nearest_all (at o o) 1 beyond ≡ []) × (k_nearest (at nan o) 4 tree_k ≡ [])
  -- "The first k of all indexed points .., ordered by squared distance, ties in near-first order"
  all-example-8 : indices_in (k_nearest_all (at i i) 4 tree_k) ≡ 0 ∷ 2 ∷ 1 ∷ 3 ∷ []
  all_first : indices_in (k_nearest_all (at i i) 1 tree_k) ≡ 0 ∷ []
  -- "entered for k only when a·a is below the k-th distance held": both are 1 here; and 1 is below 4
  not_entered : indices_in (k_nearest (at i o) 1 no_tree) ≡ 5 ∷ []
  entered : indices_in (k_nearest (at i o) 2 no_tree) ≡ 6 ∷ 5 ∷ []
  -- example 9; a point at the radius is within
  example-9 : indices_in (in_radius (at i i) 1½ tree_k) ≡ 0 ∷ 2 ∷ 1 ∷ []
  at-radius : indices_in (in_radius (at i i) i tree_k) ≡ 0 ∷ []
  -- ordered: near-first order has 3 in front
  ordered : indices_in (in_radius (at i i) v tree_k) ≡ 0 ∷ 2 ∷ 1 ∷ 3 ∷ []
  all-ordered : indices_in (in_radius_all (at i i) v tree_k) ≡ 0 ∷ 2 ∷ 1 ∷ 3 ∷ []
  -- "Radius <= 0 or NaN gives an empty list", and a radius below 1 is squared
  no-radius : (in_radius (at i o) o tree_k ≡ []) × (in_radius (at i o) (fin true 1 (pos 0)) tree_k ≡ []) × (in_radius (at i o) nan tree_k ≡ []) × (in_radius (at i o) (fin true 0 (pos 0)) tree_k ≡ [])
  small-radius : indices_in (in_radius (at half o) quarter tree_k) ≡ []
  -- "an infinite radius takes overflowed distances too", and no NaN
  all-radius : (indices_in (in_radius (at o o) (inf false) beyond) ≡ 5 ∷ []) × (indices_in (in_radius (at nan o) (inf false) beyond) ≡ [])
  -- "for radius only when a·a <= r·r": entered where they are equal, and not beyond
  plane-at-radius : indices_in (in_radius (at ii o) i on_plane) ≡ 1 ∷ 0 ∷ []
  plane-beyond : indices_in (in_radius (at i o) half no_tree) ≡ []
  -- "k nearest needs min(k, m) entries in each list": by neither k nor m nor the result
  enough : (nearest_k 9 (9 ∷ 9 ∷ 9 ∷ 9 ∷ []) (o ∷ o ∷ o ∷ o ∷ []) ≡ gives (0 ∷ 2 ∷ 1 ∷ 3 ∷ [])) × (nearest_k 2 (9 ∷ 9 ∷ []) (o ∷ o ∷ []) ≡ gives (0 ∷ 2 ∷ [])) × (nearest_k 0 [] [] ≡ gives [])
  too_short : (nearest_k 2 (9 ∷ []) (o ∷ o ∷ []) ≡ refused 3) × (nearest_k 2 (9 ∷ 9 ∷ []) (o ∷ []) ≡ refused 3) × (returned indices_in (nearest_listing K of_k (at nan i) 2 (9 ∷ []) (o ∷ [])) ≡ refused 3)
  -- 1 before 3
  uneven-first : returned indices_in (nearest_listing [] (5 ∷ []) (at i i) 1 [] []) ≡ refused 1
  refusals : (on_lists {A = ℕ} [] (5 ∷ []) [] [] 1 (gives 0) ≡ refused 1) × (on_lists {A = ℕ} [] [] [] [] 1 (gives 0) ≡ refused 3) × (on_lists {A = ℕ} [] [] (9 ∷ []) (o ∷ []) 1 (gives 0) ≡ gives 0)
  -- what is returned and left: the number of entries, indices and roots in front, the rest as it was
  left_behind : Written (gives (pair 5 iv ∷ [])) roots_in (7 ∷ 8 ∷ []) (o ∷ i ∷ []) (Ok 1) (5 ∷ 8 ∷ []) (ii ∷ i ∷ [])
  left-refused : Written (refused 3) roots_in (7 ∷ 8 ∷ []) (o ∷ i ∷ []) (Err ShortOutput) (7 ∷ 8 ∷ []) (o ∷ i ∷ [])
  -- squares, and their roots in f32
  handed : (squares_in (pair 5 iv ∷ []) ≡ iv ∷ []) × (roots_in (pair 5 ii ∷ []) ≡ fin false 11863283 (negsuc 22) ∷ [])
  -- ordered by the square, though both roots are 1
  by-square : sort far (pair 5 (fin false 8388609 (negsuc 22)) ∷ pair 6 i ∷ []) ≡ pair 6 i ∷ pair 5 (fin false 8388609 (negsuc 22)) ∷ []
  -- how an entry goes in: behind its equals, those behind it one place further, and the k-th goes
  spots : (spot ii 3 (i ∷ ii ∷ iii ∷ []) ≡ 2) × (spot o 3 (i ∷ ii ∷ iii ∷ []) ≡ 0) × (spot iv 3 (i ∷ ii ∷ iii ∷ []) ≡ 3)
  pushed : shifted {A = ℕ} 9 1 3 (1 ∷ 2 ∷ 3 ∷ 4 ∷ 5 ∷ []) ≡ 1 ∷ 9 ∷ 2 ∷ 3 ∷ 5 ∷ []
  stay : (staying 3 2 ≡ 2) × (staying 3 3 ≡ 2) × (limit_of 2 1 (i ∷ ii ∷ []) ≡ inf false) × (limit_of 2 2 (i ∷ ii ∷ []) ≡ ii)

table : Table
unfolding
    k_nearest k_nearest_all offer below_kth below_infinity kth place entry far keep indices_in squares_in roots_in in_radius in_radius_all usable within gather plane_within
    nearest_listing shifted spot lent part_of slots order walk sort insert key to_bits root whole_root root_digits
    distance_squared apart left_is_near add sub mul neg sum round units odd size le lt eq
table =
    record {
      example-8 = refl;
      first_three = refl;
      first = refl;
      none = refl;
      not_beyond = (refl, refl, refl);
      all-example-8 = refl;
      all_first = refl;
      not_entered = refl;
      entered = refl;
      example-9 = refl;
      at-radius = refl;
      ordered = refl;
      all-ordered = refl;
      no-radius = (refl, refl, refl, refl);
      small-radius = refl;
      all-radius = (refl, refl);
      plane-at-radius = refl;
      plane-beyond = refl;
      enough = (refl, refl, refl);
      too_short = (refl, refl, refl);
      uneven-first = refl;
      refusals = (refl, refl, refl);
      left_behind = record { answer = refl; indices = refl; distances = refl };
      left-refused = record { answer = refl; indices = refl; distances = refl };
      handed = (refl, refl);
      by-square = refl;
      spots = (refl, refl, refl);
      pushed = refl;
      stay = (refl, refl, refl, refl);
    }
