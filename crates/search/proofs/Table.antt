-- A table over the definitions: document 01's examples 2, 3, 5, 6 and 7, seeds and bounds at their edges, and slots that are no tree. Every row is by computation.
use mathlib.Core.Path.{◌≡◌, refl, sym, ap, subst, ◌∙◌}
use mathlib.Core.Bool.{false, true≢false}
use mathlib.Core.List.Memᴰ
use mathlib.Core.List.{List, [], ◌∷◌, ◌++◌, Memᴰ}
use Prim.Native.Nat.{ℕ, zero, suc, ◌<◌, ◌≤◌, ◌*◌}
use native.Mathlib.Omega.{arith}
use lib.IntN.{pos, negsuc}
use lib.Ieee.{Float, nan, fin, add, sub, mul, neg, sum, round, le, lt, eq}
use Rattle.bits.specs.Constants.{infinite}
use Rattle.space.specs.declared.Point3f.{Point3f}
use Rattle.space.specs.Distance.{distance_squared, apart, left_is_near}
use Rattle.tree.specs.Refuse.{Outcome, refused, gives}
use Rattle.space.specs.Exact.{exact}
use Rattle.tree.specs.Slots.{Slot, slot, point_at, slots}
use Rattle.tree.specs.Part.{part_of, lent}
use Rattle.tree.specs.Walk.{walk}
use Rattle.search.specs.Search.{walked, searched, bounded, unbounded, replaces, limit}
use Rattle.search.specs.Demands.{FirstLeast, LeastBelow, Demand2, Demand3}
use Rattle.search.specs.declared.Nearest.{Nearest}
use Rattle.search.specs.declared.Nearest.TheVariants.{Found, Nothing}

abbrev zero0 : Float
zero0 = fin false 0 (pos 0)

abbrev one1 : Float
one1 = fin false 1 (pos 0)

abbrev two2 : Float
two2 = fin false 1 (pos 1)

abbrev three3 : Float
three3 = fin false 3 (pos 0)

abbrev four4 : Float
four4 = fin false 1 (pos 2)

abbrev five5 : Float
five5 = fin false 5 (pos 0)

abbrev half : Float
half = fin false 1 (negsuc 0)

abbrev quarter : Float
quarter = fin false 1 (negsuc 1)

-- 1.125
abbrev over1 : Float
over1 = fin false 9 (negsuc 2)

-- the tree of document 01's cloud K, as lent
abbrev K : List Float
K = zero0 ∷ five5 ∷ zero0 ∷ zero0 ∷ zero0 ∷ zero0 ∷ one1 ∷ zero0 ∷ zero0 ∷ two2 ∷ zero0 ∷ zero0 ∷ []

abbrev of_k : List ℕ
of_k = 3 ∷ 1 ∷ 0 ∷ 2 ∷ []

-- the root at 0, its left part at 1.125, its right part at 3
abbrev no_tree : List Float
no_tree = zero0 ∷ zero0 ∷ zero0 ∷ over1 ∷ zero0 ∷ zero0 ∷ three3 ∷ zero0 ∷ zero0 ∷ []

-- the same with the root at (0, 1, 0)
abbrev no_tree_far : List Float
no_tree_far = zero0 ∷ one1 ∷ zero0 ∷ over1 ∷ zero0 ∷ zero0 ∷ three3 ∷ zero0 ∷ zero0 ∷ []

abbrev at : Float → Float → Point3f
at x y = record { x = x; y = y; z = zero0 }

pub rows : List (Outcome Nearest)
unfolding unbounded bounded searched walked walk lent part_of slots distance_squared apart left_is_near add sub mul neg sum round le lt eq
rows =
    bounded K of_k (at one1 one1) infinite Nothing
    ∷ bounded K of_k (at one1 one1) one1 Nothing
    ∷ unbounded K of_k (at half zero0)
    ∷ bounded K of_k (at half zero0) infinite (Found 1 quarter)
    ∷ unbounded K of_k (at nan zero0)
    ∷ bounded K of_k (at four4 zero0) infinite (Found 9 three3)
    ∷ bounded K of_k (at four4 zero0) infinite (Found 9 five5)
    ∷ bounded K of_k (at four4 zero0) four4 (Found 9 four4)
    ∷ bounded K of_k (at four4 zero0) infinite (Found 9 nan)
    ∷ bounded K of_k (at zero0 zero0) nan (Found 9 zero0)
    ∷ unbounded no_tree (5 ∷ 6 ∷ 7 ∷ []) (at one1 zero0)
    ∷ unbounded no_tree_far (5 ∷ 6 ∷ 7 ∷ []) (at one1 zero0)
    ∷ unbounded [] (5 ∷ []) (at one1 zero0)
    ∷ bounded [] [] (at one1 zero0) infinite (Found 9 one1)
    ∷ []

pub table : rows
    ≡ gives (Found 0 one1)
    ∷ gives Nothing
    ∷ gives (Found 0 quarter)
    ∷ gives (Found 1 quarter)
    ∷ gives Nothing
    ∷ gives (Found 9 three3)
    ∷ gives (Found 2 four4)
    ∷ gives Nothing
    ∷ gives (Found 2 four4)
    ∷ gives Nothing
    ∷ gives (Found 5 one1)
    ∷ gives (Found 6 (fin false 1 (negsuc 5)))
    ∷ refused 1
    ∷ gives (Found 9 one1)
    ∷ []
unfolding rows
table = refl

-- ---- what replaces the best

abbrev held : Nearest
held = Found 7 one1

strictly-nearer : (replaces one1 8 one1 held ≡ held) × (replaces one1 8 half held ≡ Found 8 half) × (replaces one1 8 nan held ≡ held)
unfolding lt le eq
strictly-nearer = (refl, refl, refl)

-- ---- demand 2 rules out wrong answers: seen from 0, slot 5 stands at 1, slot 6 at 1 too, and slot 7 at 1/4

abbrev centre : Point3f
centre = at zero0 zero0

abbrev five : Slot
five = slot (at one1 zero0) 5

abbrev six : Slot
six = slot (at zero0 one1) 6

abbrev seven : Slot
seven = slot (at half zero0) 7

-- a point at the bound is not below it
not-at-bound : FirstLeast centre (five ∷ []) one1 5 one1 → ⊥
unfolding distance_squared add sub mul neg sum round le lt eq
not-at-bound f = true≢false (sym f.below)

-- nor is one the least when another is nearer
not-farther : FirstLeast centre (five ∷ seven ∷ []) infinite 5 one1 → ⊥
unfolding distance_squared add sub mul neg sum round le lt eq
not-farther f = true≢false (f.least seven (Memᴰ.tail (Memᴰ.head refl)))

-- nor does the second of two equals come first
second : (before : List Slot) (found : Slot) (after : List Slot) → five ∷ six ∷ [] ≡ before ++ found ∷ after → found.index ≡ 6
    → ((s : Slot) → Memᴰ s before → le (distance_squared centre s.point) one1 ≡ false) → ⊥
unfolding distance_squared add sub mul neg sum round le lt eq
second [] found after e i h = let k : five ≡ found = cc in let z : ◌≡◌ {A = ℕ} 5 6 = ap (λ s. s.index) k ∙ i in absurd (omega arith)
second (b ∷ before) found after e i h = let k : five ≡ b = cc in true≢false (h five (Memᴰ.head k))

not-second : FirstLeast centre (five ∷ six ∷ []) infinite 6 one1 → ⊥
not-second f = second f.before f.found f.after f.in_order f.index f.first

-- nor is nothing the answer where a point is below the bound, without a seed or with one that is dropped
not-nothing : LeastBelow centre (five ∷ []) infinite Nothing → ⊥
unfolding distance_squared add sub mul neg sum round le lt eq
not-nothing n = true≢false (n five (Memᴰ.head refl))

not-unseeded : Demand2 centre (five ∷ []) infinite Nothing Nothing → ⊥
not-unseeded d = not-nothing (d.unseeded refl)

not-dropped : Demand2 centre (five ∷ []) infinite (Found 9 nan) Nothing → ⊥
unfolding lt
not-dropped d = not-nothing (d.dropped 9 nan refl refl)

-- a seed that nothing is nearer than stays
not-lost : Demand2 centre [] infinite (Found 9 half) Nothing → ⊥
unfolding lt
not-lost d = let e : Nothing ≡ Found 9 half = d.stays 9 half refl refl (λ s m. absurd (Memᴰ.not-nil m)) in true≢false (ap (λ n. lt (limit zero0 n) half) e)

-- and one that a point is nearer than does not
not-kept : Demand2 centre (five ∷ []) infinite (Found 9 two2) (Found 9 two2) → ⊥
unfolding distance_squared add sub mul neg sum round le lt eq
not-kept d = true≢false (sym (d.gives_way 9 two2 refl refl five (Memᴰ.head refl) refl).below)

-- ---- demand 3: on the x axis, in units of 2 ^ -40 and seen from 0. Point 0 stands at 2 ^ 22 and point 1 one farther: near enough; at 2 ^ 21 it is not

abbrev wide : List Float
wide = fin false 1 (negsuc 17) ∷ zero0 ∷ zero0 ∷ fin false 4194305 (negsuc 39) ∷ zero0 ∷ zero0 ∷ []

abbrev narrow : List Float
narrow = fin false 1 (negsuc 18) ∷ zero0 ∷ zero0 ∷ fin false 2097153 (negsuc 39) ∷ zero0 ∷ zero0 ∷ []

near-enough : (j : ℕ) → j < 2 → exact centre (point_at wide 1) * 1048576 ≤ exact centre (point_at wide j) * 1048577
near-enough zero h = let k : 18446752869803622400 ≤ 18446761665895596032 = omega arith in k
near-enough (suc zero) h = let k : 18446752869803622400 ≤ 18446770461998055425 = omega arith in k
near-enough (suc (suc j)) h = absurd (omega (arith, h))

near-enough-3 : Demand3 wide centre (Found 1 one1)
near-enough-3 = record { index = 1; distance = one1; found = refl; within = omega arith; nearest = near-enough }

too_far : (i : ℕ) → i ≡ 1 → exact centre (point_at narrow i) * 1048576 ≤ exact centre (point_at narrow 0) * 1048577 → ⊥
too_far i e h = let k : exact centre (point_at narrow 1) * 1048576 ≤ exact centre (point_at narrow 0) * 1048577 = subst (λ i. exact centre (point_at narrow i) * 1048576 ≤ exact centre (point_at narrow 0) * 1048577) e h in
    let l : 4611690416474947584 ≤ 4611690416473899008 = k in absurd (omega (arith, l))

-- the index that an answer names
abbrev named : Nearest → ℕ
named (Found i d) = i
named Nothing = 0

not-too-far : Demand3 narrow centre (Found 1 one1) → ⊥
not-too-far d = too_far d.index (sym (ap named d.found)) (d.nearest 0 (omega arith))

-- nor is nothing an answer, or an index outside
abbrev kind : Nearest → ℕ
kind (Found i d) = 1
kind Nothing = 0

not_none : Demand3 narrow centre Nothing → ⊥
not_none d = let z : ◌≡◌ {A = ℕ} 0 1 = ap (λ n. kind n) d.found in absurd (omega arith)

not-outside : Demand3 narrow centre (Found 2 one1) → ⊥
not-outside d = let e : 2 ≡ d.index = ap named d.found in let w : d.index < 2 = d.within in absurd (omega (arith, e, w))
