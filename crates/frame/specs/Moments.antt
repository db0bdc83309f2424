-- Document 01, "Matching, sums and frames": what scale and frame add up over a cloud. Definitions only.
use Rattle.std.specs.Prelude.{◌+◌, max, cond, List, [], ◌∷◌, pos, Float}
use Rattle.std.specs.Float.{binary64}
use Rattle.std.specs.Float.Ieee.{add, of_int}
use Rattle.bits.specs.Constants.{nought}
use Rattle.space.specs.declared.Point3f.{Point3f}
use Rattle.tree.specs.Cloud.{points, finite_point}
use Rattle.sums.specs.declared.Vector3d.{Vector3d}
use Rattle.sums.specs.Vector.{zero_vector, wide_point, plus, over, norm_squared}
use Rattle.frame.specs.declared.Moments.{Moments}

-- of nothing: every sum starts from +0
abbrev pub zero_moments : Moments
zero_moments = record { count = 0; sum = zero_vector; sum_sq = nought }

-- "Scale and frame skip non-finite points"
unfoldable pub add_point : Moments → Point3f → Moments
unfolding finite_point
add_point m p =
    let v = wide_point p in
    let more : Moments = record { count = m.count + 1; sum = plus m.sum v; sum_sq = add binary64 m.sum_sq (norm_squared v) } in
    cond (finite_point p) more m

-- "and add left to right in f64"
unfoldable pub add_points : Moments → List Point3f → Moments
unfolding add_point
add_points m [] = m
add_points m (p ∷ ps) = add_points (add_point m p) ps

unfoldable pub moments_of : List Float → Moments
unfolding add_points points
moments_of cloud = add_points zero_moments (points cloud)

-- "n at least 1"
unfoldable pub divisor : Moments → Float
unfolding of_int
divisor m = of_int binary64 (pos (max m.count 1))

-- "sum/n", the f64 mean
unfoldable pub mean : Moments → Vector3d
unfolding divisor
mean m = over m.sum (divisor m)
