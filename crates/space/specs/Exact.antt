-- Demand 3: "coordinates that are multiples of 2^-40 of magnitude at most 2^40", and the exact squared distance of two such points, as a whole number. Definitions only.
use Rattle.std.specs.Prelude.{ℕ, ◌+◌, ◌-◌, ◌*◌, ◌/◌, ◌%◌, ◌^◌, Bool, false, not, ◌&&◌, cond, T, leb, eqb, Float}
use Rattle.std.specs.Bool.{beq}
use Rattle.std.specs.Float.{nan, inf, fin}
use Rattle.std.specs.Float.Ieee.{up, down}
use Rattle.space.specs.declared.Point3f.{Point3f}

-- finite, a multiple of 2 ^ -40, and of magnitude 2 ^ 40 at most
abbrev pub tame : Float → Bool
tame nan = false
tame (inf s) = false
tame (fin s m e) = eqb (m * up e * 2 ^ 40 % down e) 0 && leb (m * up e) (2 ^ 40 * down e)

pub record Tame (p : Point3f) : Type 0 where
  pub x : T (tame p.x)
  pub y : T (tame p.y)
  pub z : T (tame p.z)

abbrev pub sign : Float → Bool
sign nan = false
sign (inf s) = s
sign (fin s m e) = s

-- the magnitude in units of 2 ^ -40
abbrev pub grain : Float → ℕ
grain nan = 0
grain (inf s) = 0
grain (fin s m e) = m * up e * 2 ^ 40 / down e

-- |±a + ±b|, for the signs s and t: like signs add, unlike ones take away
abbrev pub gap : Bool → ℕ → Bool → ℕ → ℕ
gap s a t b = cond (beq s t) (a + b) ((a - b) + (b - a))

-- how far apart two coordinates are, |x - y| in units of 2 ^ -40
abbrev pub between : Float → Float → ℕ
between x y = gap (sign x) (grain x) (not (sign y)) (grain y)

-- the exact squared distance of q and p, in units of 2 ^ -80
abbrev pub exact : Point3f → Point3f → ℕ
exact q p = between p.x q.x * between p.x q.x + between p.y q.y * between p.y q.y + between p.z q.z * between p.z q.z
