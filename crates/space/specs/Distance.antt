-- Document 01, "Distance and near-first order": the squared distance, and the distance to a node's plane, as f32 computes them. Definitions only.
use Rattle.std.specs.Prelude.{ℕ, zero, suc, Bool, Float}
use Rattle.std.specs.Float.{Format, binary32}
use Rattle.std.specs.Float.Ieee.{add, sub, mul, le}
use Rattle.bits.specs.Constants.{nought}
use Rattle.space.specs.declared.Point3f.{Point3f}

-- x·x, in the format f
abbrev pub square_in : Format → Float → Float
square_in f x = mul f x x

-- (x·x + y·y) + z·z, in the format f
abbrev pub squares : Format → Float → Float → Float → Float
squares f x y z = add f (add f (square_in f x) (square_in f y)) (square_in f z)

-- a·a in f32
abbrev pub square : Float → Float
square = square_in binary32

-- "Axis is depth mod 3 (x, y, z)": the coordinate of p on an axis
abbrev pub on : ℕ → Point3f → Float
on zero p = p.x
on (suc zero) p = p.y
on (suc (suc k)) p = p.z

-- "Squared distance is (dx·dx + dy·dy) + dz·dz with dx = point.x - query.x and so on, in f32"
unfoldable pub distance_squared : Point3f → Point3f → Float
distance_squared q p = squares binary32 (sub binary32 p.x q.x) (sub binary32 p.y q.y) (sub binary32 p.z q.z)

-- "At a node let a = query - node on its axis"
unfoldable pub apart : ℕ → Point3f → Point3f → Float
apart axis q p = sub binary32 (on axis q) (on axis p)

-- "If a <= 0 the near side is left, otherwise (also for NaN) right"
unfoldable pub left_is_near : Float → Bool
left_is_near a = le a nought
