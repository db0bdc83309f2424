-- A table over the definitions: the smallest inputs at which a wrong reading of document 01 gives another answer. Every row is by computation.
use mathlib.Core.Path.{◌≡◌, refl}
use mathlib.Core.Bool.{true, false}
use Prim.Native.Nat.{◌*◌, ◌^◌}
use lib.IntN.{pos, negsuc}
use lib.Ieee.{Float, nan, inf, fin, add, sub, mul, le}
use Rattle.bits.specs.Constants.{nought, infinite}
use Rattle.space.specs.declared.Point3f.{Point3f}
use Rattle.space.specs.Distance.{square, on, distance_squared, apart, left_is_near}
use Rattle.space.specs.Exact.{tame, Tame, exact}

abbrev at : Float → Float → Float → Point3f
at x y z = record { x = x; y = y; z = z }

abbrev origin : Point3f
origin = at nought nought nought

abbrev one : Float
one = fin false 1 (pos 0)

abbrev two : Float
two = fin false 1 (pos 1)

abbrev three : Float
three = fin false 3 (pos 0)

abbrev half : Float
half = fin false 1 (negsuc 0)

-- 2 ^ -12, whose square is half a unit in the last place of 1
abbrev small : Float
small = fin false 1 (negsuc 11)

-- 2 ^ 64, whose square is past f32
abbrev large : Float
large = fin false 1 (pos 64)

-- ---- the squared distance
-- every coordinate counts, once and squared: 1 + 4 + 9
weighs : distance_squared origin (at one two three) ≡ fin false 7 (pos 1)
unfolding distance_squared add sub mul
weighs = refl

-- document 01, example 5
quarter : distance_squared (at half nought nought) (at one nought nought) ≡ fin false 1 (negsuc 1)
unfolding distance_squared add sub mul
quarter = refl

-- x and y are added first, z last: where two are 2 ^ -12 and one is 1, the small ones are lost one by one, but for z = 1, and count together there
x-large : distance_squared origin (at one small small) ≡ one
unfolding distance_squared add sub mul
x-large = refl

y-large : distance_squared origin (at small one small) ≡ one
unfolding distance_squared add sub mul
y-large = refl

z-large : distance_squared origin (at small small one) ≡ fin false 8388609 (negsuc 22)
unfolding distance_squared add sub mul
z-large = refl

-- overflow gives infinity, an infinite query too, and a NaN a NaN
overflows : (distance_squared origin (at nought large nought) ≡ infinite) × (distance_squared (at nought nought (inf true)) origin ≡ infinite) × (distance_squared (at nan nought nought) origin ≡ nan)
unfolding distance_squared add sub mul
overflows = (refl, refl, refl)

-- ---- axes 0, 1, 2, and the distance to a node's plane, query less node
axes : (on 0 (at one two three) ≡ one) × (on 1 (at one two three) ≡ two) × (on 2 (at one two three) ≡ three)
axes = (refl, refl, refl)

planes : (apart 0 (at half two three) (at one nought nought) ≡ fin true 1 (negsuc 0)) × (apart 1 (at half two three) (at one nought nought) ≡ two) × (apart 2 (at half two three) (at one nought nought) ≡ three)
unfolding apart add sub
planes = (refl, refl, refl)

-- the plane's distance is squared: 0.5 stands at 0.25; and 2 ^ -80 squares to 0
squared : (square (fin true 1 (negsuc 0)) ≡ fin false 1 (negsuc 1)) × (square (fin false 1 (negsuc 79)) ≡ nought)
unfolding mul
squared = (refl, refl)

-- the near side is left at a zero of either sign and below, and right above it, were it by 2 ^ -149, and at a NaN
sides : (left_is_near nought ≡ true) × (left_is_near (fin true 0 (pos 0)) ≡ true) × (left_is_near (fin true 1 (negsuc 148)) ≡ true) × (left_is_near (inf true) ≡ true) × (left_is_near (fin false 1 (negsuc 148)) ≡ false) × (left_is_near (inf false) ≡ false) × (left_is_near nan ≡ false)
unfolding left_is_near le
sides = (refl, refl, refl, refl, refl, refl, refl)

-- ---- demand 3: the ends of its range, 2 ^ 40 and 2 ^ -40, and what lies outside it, 2 ^ 41 and 2 ^ -41
ends : (tame (fin true 1 (pos 40)) ≡ true) × (tame (fin false 1 (negsuc 39)) ≡ true) × (tame (fin true 0 (pos 0)) ≡ true) × (tame (fin false 1 (pos 41)) ≡ false) × (tame (fin false 1 (negsuc 40)) ≡ false) × (tame infinite ≡ false) × (tame nan ≡ false)
ends = (refl, refl, refl, refl, refl, refl, refl)

-- the exact distance, in units of 2 ^ -80: 1 + 4 + 9; 0.25; and from -2 ^ 40 to 2 ^ 40 on each axis
exactly : (exact origin (at one two three) ≡ 14 * 2 ^ 80) × (exact (at half nought nought) (at one nought nought) ≡ 2 ^ 78) × (exact (at (fin true 1 (pos 40)) (fin true 1 (pos 40)) (fin true 1 (pos 40))) (at (fin false 1 (pos 40)) (fin false 1 (pos 40)) (fin false 1 (pos 40))) ≡ 3 * 2 ^ 162)
exactly = (refl, refl, refl)

-- where the first number is the lesser
exactly-turned : (exact (at three three three) (at one two three) ≡ 5 * 2 ^ 80) × (exact (at one two three) (at three three three) ≡ 5 * 2 ^ 80)
exactly-turned = (refl, refl)

-- every coordinate has to lie in the range
each-tame : (Tame (at nan nought nought) → ⊥) × (Tame (at nought nan nought) → ⊥) × (Tame (at nought nought nan) → ⊥)
each-tame = (λ t. t.x, λ t. t.y, λ t. t.z)

-- z is taken from z
z-alone : distance_squared (at nought nought three) (at nought nought one) ≡ fin false 1 (pos 2)
unfolding distance_squared add sub mul
z-alone = refl
