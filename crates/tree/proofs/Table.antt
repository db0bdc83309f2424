-- A table over the definitions: the smallest inputs at which a wrong reading of document 01 gives another answer. Every row is by computation.
use mathlib.Core.Path.{◌≡◌, refl, ap, ap₂}
use mathlib.Core.Bool.{Bool, true, false}
use mathlib.Core.List.{List, [], ◌∷◌, ◌++◌}
use Prim.Native.Nat.{ℕ}
use lib.IntN.{pos, negsuc}
use lib.ListN.{length}
use lib.Dec.{ltb}
use lib.Ieee.{Float, nan, inf, fin, to_bits, size, sub, add, neg, mul, sum, round, le, lt, eq}
use Rattle.std.proofs.Common.{Ok, Err}
use Rattle.bits.specs.Key.{key}
use Rattle.bits.specs.Finite.{finite}
use Rattle.space.specs.declared.Point3f.{Point3f}
use Rattle.space.specs.Distance.{apart, left_is_near}
use Rattle.tree.specs.Refuse.{Outcome, refused, gives, refuse, returned, left, count, ragged, uneven, mismatched, too_many, short, has_none, any_entry_outside, any_index_outside, overwrite, on_cloud, on_tree}
use Rattle.tree.specs.Refusal.{outcome_of}
use Rattle.tree.specs.declared.Refusal.TheVariants.{UnfitLengths, TooMany, ShortOutput, NothingToMatch, OutsideIndex}
use Rattle.tree.specs.Slots.{Slot, slot, rank, slots, numbers_of, indices_of}
use Rattle.tree.specs.Part.{Part, empty, split, laid, part_of, lent}
use Rattle.tree.specs.Sort.{sort, insert}
use Rattle.tree.specs.Grow.{grow}
use Rattle.tree.specs.Cloud.{points, finite_point, finite_from, indexed, tree_of}
use Rattle.tree.specs.Walk.{order, each, walk}
use Rattle.tree.specs.Levels.{levels, height}

abbrev zero0 : Float
zero0 = fin false 0 (pos 0)

abbrev one1 : Float
one1 = fin false 1 (pos 0)

abbrev two2 : Float
two2 = fin false 1 (pos 1)

abbrev five5 : Float
five5 = fin false 5 (pos 0)

-- document 01's cloud K: points 0 (1,0,0), 1 (0,0,0), 2 (2,0,0), 3 (0,5,0)
abbrev cloud_k : List Float
cloud_k = one1 ∷ zero0 ∷ zero0 ∷ zero0 ∷ zero0 ∷ zero0 ∷ two2 ∷ zero0 ∷ zero0 ∷ zero0 ∷ five5 ∷ zero0 ∷ []

-- example 1
k-builds : indices_of (laid (tree_of cloud_k)) ≡ 3 ∷ 1 ∷ 0 ∷ 2 ∷ []
unfolding indices_of laid tree_of grow indexed finite_from finite_point points finite sort insert rank key to_bits size
k-builds = refl

k-order : indices_of (order (record { x = one1; y = one1; z = zero0 }) 0 (tree_of cloud_k)) ≡ 3 ∷ 0 ∷ 2 ∷ 1 ∷ []
unfolding indices_of order laid tree_of grow indexed finite_from finite_point points finite sort insert rank key to_bits size apart left_is_near sub add neg sum round le lt eq
k-order = refl

abbrev three3 : Float
three3 = fin false 3 (pos 0)

abbrev four4 : Float
four4 = fin false 1 (pos 2)

abbrev half½ : Float
half½ = fin false 1 (negsuc 0)

abbrev minus0 : Float
minus0 = fin true 0 (pos 0)

abbrev flat : Float → Float → Point3f
flat x y = record { x = x; y = y; z = zero0 }

-- ---- the build

-- "Axis is depth mod 3": 11 points that x, y and z order differently, so that an axis kept on either side shows
abbrev cloud11 : List Float
cloud11 =
    zero0
    ∷ three3
    ∷ one1
    ∷ one1
    ∷ one1
    ∷ zero0
    ∷ two2
    ∷ four4
    ∷ zero0
    ∷ three3
    ∷ zero0
    ∷ one1
    ∷ four4
    ∷ two2
    ∷ five5
    ∷ five5
    ∷ zero0
    ∷ zero0
    ∷ fin false 3 (pos 1)
    ∷ three3
    ∷ one1
    ∷ fin false 7 (pos 0)
    ∷ one1
    ∷ zero0
    ∷ fin false 1 (pos 3)
    ∷ four4
    ∷ zero0
    ∷ fin false 9 (pos 0)
    ∷ zero0
    ∷ one1
    ∷ fin false 5 (pos 1)
    ∷ two2
    ∷ five5
    ∷ []

axes-build : indices_of (laid (tree_of cloud11)) ≡ 5 ∷ 4 ∷ 1 ∷ 3 ∷ 2 ∷ 0 ∷ 10 ∷ 7 ∷ 9 ∷ 8 ∷ 6 ∷ []
unfolding indices_of laid tree_of grow indexed finite_from finite_point points finite sort insert rank key to_bits size
axes-build = refl

-- "equals by lower original index", also where the level above has put the higher one first: x is 1, 0, 2, 3, 4, and all else 0
abbrev cloud5 : List Float
cloud5 = one1 ∷ zero0 ∷ zero0 ∷ zero0 ∷ zero0 ∷ zero0 ∷ two2 ∷ zero0 ∷ zero0 ∷ three3 ∷ zero0 ∷ zero0 ∷ four4 ∷ zero0 ∷ zero0 ∷ []

ties-build : indices_of (laid (tree_of cloud5)) ≡ 2 ∷ 0 ∷ 1 ∷ 3 ∷ 4 ∷ []
unfolding indices_of laid tree_of grow indexed finite_from finite_point points finite sort insert rank key to_bits size
ties-build = refl

-- a coordinate decides before any index: 0 with the highest index, 2 ^ -149 with the lowest
coordinate-first : ltb (rank 0 (slot (flat zero0 zero0) 1048575)) (rank 0 (slot (flat (fin false 1 (negsuc 148)) zero0) 0)) ≡ true
unfolding rank key to_bits size
coordinate-first = refl

-- "-0 before +0"
zeros-build : indices_of (laid (tree_of (zero0 ∷ zero0 ∷ zero0 ∷ minus0 ∷ zero0 ∷ zero0 ∷ []))) ≡ 1 ∷ 0 ∷ []
unfolding indices_of laid tree_of grow indexed finite_from finite_point points finite sort insert rank key to_bits size
zeros-build = refl

-- "Only points with three finite coordinates are indexed", under their original index; two numbers left over are no point
abbrev cloud_wild : List Float
cloud_wild = nan ∷ zero0 ∷ zero0 ∷ zero0 ∷ inf true ∷ zero0 ∷ one1 ∷ zero0 ∷ zero0 ∷ zero0 ∷ zero0 ∷ inf false ∷ one1 ∷ one1 ∷ []

finite-build : indices_of (laid (tree_of cloud_wild)) ≡ 2 ∷ []
unfolding indices_of laid tree_of grow indexed finite_from finite_point points finite sort insert rank key to_bits size
finite-build = refl

-- equals keep their order
same_rank : sort (λ (k : ℕ). 0) (7 ∷ 9 ∷ 8 ∷ []) ≡ 7 ∷ 9 ∷ 8 ∷ []
unfolding sort insert
same_rank = refl

-- "children follow from the counts"
abbrev again : List Slot → Part
again ss = lent (numbers_of ss) (indices_of ss)

k-lent : again (laid (tree_of cloud_k)) ≡ tree_of cloud_k
unfolding lent slots part_of numbers_of indices_of laid tree_of grow indexed finite_from finite_point points finite sort insert rank key to_bits size
k-lent = refl

-- ---- near-first order: "If a <= 0 the near side is left, otherwise (also for NaN) right"

abbrev three : Part
three = split (slot (flat one1 zero0) 7) (split (slot (flat zero0 zero0) 8) empty empty) (split (slot (flat two2 zero0) 9) empty empty)

on-plane : indices_of (order (flat one1 one1) 0 three) ≡ 7 ∷ 8 ∷ 9 ∷ []
unfolding indices_of order apart left_is_near sub add neg sum round le lt eq
on-plane = refl

off-plane : indices_of (order (flat two2 one1) 0 three) ≡ 7 ∷ 9 ∷ 8 ∷ []
unfolding indices_of order apart left_is_near sub add neg sum round le lt eq
off-plane = refl

no-side : indices_of (order (flat nan one1) 0 three) ≡ 7 ∷ 9 ∷ 8 ∷ []
unfolding indices_of order apart left_is_near sub add neg sum round le lt eq
no-side = refl

-- one level deeper the next axis decides: the query lies on the left of the root, and beyond either part's root in x, but not in y
abbrev cross : Part
cross =
    split (slot (flat five5 zero0) 1)
    (split (slot (flat zero0 two2) 2) (split (slot (flat one1 one1) 3) empty empty) (split (slot (flat one1 three3) 4) empty empty))
    (split (slot (flat zero0 two2) 5) (split (slot (flat one1 one1) 6) empty empty) (split (slot (flat one1 three3) 7) empty empty))

next-axis : indices_of (order (flat one1 one1) 0 cross) ≡ 1 ∷ 2 ∷ 3 ∷ 4 ∷ 5 ∷ 6 ∷ 7 ∷ []
unfolding indices_of order apart left_is_near sub add neg sum round le lt eq
next-axis = refl

-- ---- the pruned walk, by a search that notes the indices it has seen

abbrev noting : Slot → List ℕ → List ℕ
noting n seen = seen ++ (n.index ∷ [])

abbrev below : Float → Float → List ℕ → Bool
below bound plane seen = lt plane bound

-- the far part's a is 0.5 and its a·a 0.25: entered below 0.3125, and not below 0.25
plane-in : walk noting (below (fin false 5 (negsuc 3))) (flat (fin false 3 (negsuc 0)) zero0) 0 three [] ≡ 7 ∷ 9 ∷ 8 ∷ []
unfolding walk apart left_is_near sub add neg mul sum round le lt eq
plane-in = refl

plane-out : walk noting (below (fin false 1 (negsuc 1))) (flat (fin false 3 (negsuc 0)) zero0) 0 three [] ≡ 7 ∷ 9 ∷ []
unfolding walk apart left_is_near sub add neg mul sum round le lt eq
plane-out = refl

-- "A far part is judged when its near part is done": two are seen then
abbrev few : Float → List ℕ → Bool
few plane seen = ltb (length seen) 2

judged-late : walk noting few (flat one1 zero0) 0 three [] ≡ 7 ∷ 8 ∷ []
unfolding walk apart left_is_near sub add neg mul sum round le lt eq
judged-late = refl

-- the walk takes the same turns, on either side
every : Float → List ℕ → Bool
every plane seen = true

next-axis-walked : walk noting every (flat one1 one1) 0 cross [] ≡ 1 ∷ 2 ∷ 3 ∷ 4 ∷ 5 ∷ 6 ∷ 7 ∷ []
unfolding walk every apart left_is_near sub add neg mul sum round le lt eq
next-axis-walked = refl

-- every slot is looked at, first to last
looked-at : each noting (laid three) [] ≡ 7 ∷ 8 ∷ 9 ∷ []
unfolding each laid
looked-at = refl

-- ---- levels: "1 for m = 1, 3 for 4, 21 for 1,048,576"

levels-1 : levels 1 ≡ 1
unfolding levels size
levels-1 = refl

levels-4 : levels 4 ≡ 3
unfolding levels size
levels-4 = refl

levels-most : levels 1048576 ≡ 21
unfolding levels size
levels-most = refl

k-levels : height (tree_of cloud_k) ≡ 3
unfolding height tree_of grow indexed finite_from finite_point points finite sort insert rank key to_bits size
k-levels = refl

-- the deeper part counts, on whichever side it is
deeper-left : height (split (slot (flat one1 zero0) 7) three empty) ≡ 3
unfolding height
deeper-left = refl

-- ---- refusals

-- "no multiple of 3", "not 3 times its index length", "not one entry per source point"
lengths : (ragged cloud_k ≡ false) × (ragged (zero0 ∷ cloud_k) ≡ true) × (uneven (zero0 ∷ zero0 ∷ zero0 ∷ []) (9 ∷ []) ≡ false)
    × (uneven (zero0 ∷ zero0 ∷ zero0 ∷ zero0 ∷ []) (9 ∷ []) ≡ true) × (mismatched cloud_k (0 ∷ 0 ∷ 0 ∷ 0 ∷ []) ≡ false) × (mismatched cloud_k (0 ∷ []) ≡ true)
lengths = (refl, refl, refl, refl, refl, refl)

-- two numbers over, and three; an entry too many; one point
lengths-over : (ragged (zero0 ∷ zero0 ∷ cloud_k) ≡ true) × (ragged (zero0 ∷ zero0 ∷ zero0 ∷ cloud_k) ≡ false) × (mismatched [] (0 ∷ []) ≡ true) × (has_none (zero0 ∷ zero0 ∷ zero0 ∷ []) ≡ false)
lengths-over = (refl, refl, refl, refl)

-- "over 1,048,576", "too short", "empty"
bounds : (too_many 1048576 ≡ false) × (too_many 1048577 ≡ true) × (short cloud_k 12 ≡ false) × (short cloud_k 13 ≡ true) × (has_none cloud_k ≡ false) × (has_none [] ≡ true)
bounds = (refl, refl, refl, refl, refl, refl)

-- a match entry may be 4,294,967,295, an index held in the tree may not
entries : (any_entry_outside 2 (1 ∷ 4294967295 ∷ 0 ∷ []) ≡ false) × (any_entry_outside 2 (1 ∷ 2 ∷ []) ≡ true)
    × (any_index_outside 2 (1 ∷ 0 ∷ []) ≡ false) × (any_index_outside 2 (1 ∷ 4294967295 ∷ []) ≡ true)
unfolding any_entry_outside any_index_outside
entries = (refl, refl, refl, refl)

-- the first condition that holds gives its number; success keeps what is beyond
abbrev tried : Bool → Bool → Outcome (List ℕ)
tried a b = refuse 1 a (refuse 2 b (gives (5 ∷ 6 ∷ [])))

outcomes : (tried true true ≡ refused 1) × (tried false true ≡ refused 2) × (tried false false ≡ gives (5 ∷ 6 ∷ []))
    × (left (λ new. overwrite new (7 ∷ 8 ∷ 9 ∷ [])) (7 ∷ 8 ∷ 9 ∷ []) (tried true true) ≡ 7 ∷ 8 ∷ 9 ∷ [])
    × (left (λ new. overwrite new (7 ∷ 8 ∷ 9 ∷ [])) (7 ∷ 8 ∷ 9 ∷ []) (tried false false) ≡ 5 ∷ 6 ∷ 9 ∷ [])
outcomes = (refl, refl, refl, refl, refl)

told : (returned length (tried true false) ≡ refused 1) × (returned length (tried false false) ≡ gives 2)
told = (refl, refl)

-- each refusal of an entry has its number, and a value is given
cases : (outcome_of {A = ℕ} (Err UnfitLengths) ≡ refused 1) × (outcome_of {A = ℕ} (Err TooMany) ≡ refused 2) × (outcome_of {A = ℕ} (Err ShortOutput) ≡ refused 3)
    × (outcome_of {A = ℕ} (Err NothingToMatch) ≡ refused 4) × (outcome_of {A = ℕ} (Err OutsideIndex) ≡ refused 5) × (outcome_of {A = ℕ} (Ok 7) ≡ gives 7)
cases = (refl, refl, refl, refl, refl, refl)

-- "Tested in the order 1, 2, ..": a list long enough for 2 is too long for a row, so that these are told of every list
module _ (cloud coords : List Float) (indices : List ℕ) (next : Outcome ℕ) where
  cloud-one : ragged cloud ≡ true → on_cloud cloud next ≡ refused 1
  cloud-one h = ap (λ b. refuse 1 b (refuse 2 (too_many (count cloud)) next)) h

  cloud-two : ragged cloud ≡ false → too_many (count cloud) ≡ true → on_cloud cloud next ≡ refused 2
  cloud-two h k = ap₂ (λ b c. refuse 1 b (refuse 2 c next)) h k

  cloud-neither : ragged cloud ≡ false → too_many (count cloud) ≡ false → on_cloud cloud next ≡ next
  cloud-neither h k = ap₂ (λ b c. refuse 1 b (refuse 2 c next)) h k

  tree-one : uneven coords indices ≡ true → on_tree coords indices next ≡ refused 1
  tree-one h = ap (λ b. refuse 1 b (refuse 2 (too_many (length indices)) next)) h

  tree-two : uneven coords indices ≡ false → too_many (length indices) ≡ true → on_tree coords indices next ≡ refused 2
  tree-two h k = ap₂ (λ b c. refuse 1 b (refuse 2 c next)) h k

  tree-neither : uneven coords indices ≡ false → too_many (length indices) ≡ false → on_tree coords indices next ≡ next
  tree-neither h k = ap₂ (λ b c. refuse 1 b (refuse 2 c next)) h k
