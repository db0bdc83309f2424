-- Vectors of three f64, coordinate by coordinate, each operation rounded once. Document 01: "nalgebra's vectors become small structs of floats by value". Definitions only.
use Rattle.std.specs.Prelude.{Float}
use Rattle.std.specs.Float.{binary64}
use Rattle.std.specs.Float.Ieee.{add, sub, mul, div}
use Rattle.bits.specs.Constants.{nought}
use Rattle.bits.specs.Convert.{widen, narrow}
use Rattle.space.specs.declared.Point3f.{Point3f}
use Rattle.space.specs.Distance.{squares}
use Rattle.sums.specs.declared.Vector3d.{Vector3d}

abbrev pub zero_vector : Vector3d
zero_vector = record { x = nought; y = nought; z = nought }

-- a point's three f32 as f64, and back, rounded once
abbrev pub wide_point : Point3f → Vector3d
wide_point p = record { x = widen p.x; y = widen p.y; z = widen p.z }

abbrev pub narrow_point : Vector3d → Point3f
narrow_point v = record { x = narrow v.x; y = narrow v.y; z = narrow v.z }

abbrev pub plus : Vector3d → Vector3d → Vector3d
plus v w = record { x = add binary64 v.x w.x; y = add binary64 v.y w.y; z = add binary64 v.z w.z }

abbrev pub minus : Vector3d → Vector3d → Vector3d
minus v w = record { x = sub binary64 v.x w.x; y = sub binary64 v.y w.y; z = sub binary64 v.z w.z }

abbrev pub times : Float → Vector3d → Vector3d
times c v = record { x = mul binary64 c v.x; y = mul binary64 c v.y; z = mul binary64 c v.z }

abbrev pub over : Vector3d → Float → Vector3d
over v c = record { x = div binary64 v.x c; y = div binary64 v.y c; z = div binary64 v.z c }

-- "Every squared norm is (x·x + y·y) + z·z in its own width"
abbrev pub norm_squared : Vector3d → Float
norm_squared v = squares binary64 v.x v.y v.z
