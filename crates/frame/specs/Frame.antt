-- Document 01, "Matching, sums and frames": the scale of a cloud, its frame, and a point in it. Definitions only.
use Rattle.std.specs.Prelude.{Bool, false, cond, List, pos, Float}
use Rattle.std.specs.Prelude.{Option, None, Some}
use Rattle.std.specs.Float.{fin, binary32, binary64}
use Rattle.std.specs.Float.Ieee.{sub, mul, div, lt, le}
use Rattle.bits.specs.Constants.{nought}
use Rattle.bits.specs.Convert.{narrow}
use Rattle.bits.specs.Root.{root}
use Rattle.space.specs.declared.Point3f.{Point3f}
use Rattle.space.specs.Distance.{squares}
use Rattle.sums.specs.Vector.{wide_point, narrow_point, minus, norm_squared}
use Rattle.frame.specs.declared.Moments.{Moments}
use Rattle.frame.specs.declared.CloudScale.{CloudScale}
use Rattle.frame.specs.declared.LocalFrame.{LocalFrame}
use Rattle.frame.specs.Moments.{moments_of, divisor, mean}

-- "max(0, ..)"
unfoldable pub at_least_nought : Float → Float
unfolding lt
at_least_nought v = cond (lt nought v) v nought

-- "radius = root of max(0, sum of squares/n - squared norm of centroid)", narrowed
unfoldable pub radius : Moments → Float
unfolding sub div divisor mean at_least_nought root narrow
radius m = narrow (root binary64 (at_least_nought (sub binary64 (div binary64 m.sum_sq (divisor m)) (norm_squared (mean m)))))

-- "centroid = sum/n .. both narrowed to f32"
unfoldable pub scale_of : List Float → CloudScale
unfolding moments_of mean radius
scale_of cloud = let m = moments_of cloud in record { centroid = narrow_point (mean m); radius = radius m }

-- "Its origin is the f64 mean"
unfoldable pub frame_on : List Float → LocalFrame
unfolding moments_of mean
frame_on cloud = record { origin = mean (moments_of cloud) }

-- "the f32 norm of the centroid <= 100·radius"
unfoldable pub near : CloudScale → Bool
unfolding le mul root
near s = le (root binary32 (squares binary32 s.centroid.x s.centroid.y s.centroid.z)) (mul binary32 (fin false 25 (pos 2)) s.radius)

-- "A frame exists unless" it is near
unfoldable pub frame_of : List Float → Option LocalFrame
unfolding near scale_of frame_on
frame_of cloud =
    let far = Some (frame_on cloud) in
    cond (near (scale_of cloud)) None far

-- "a local point is (p - origin) narrowed"
unfoldable pub local_point : LocalFrame → Point3f → Point3f
local_point f p = narrow_point (minus (wide_point p) f.origin)
