-- Arguments of the C interface, taken together. Definitions only.
use Rattle.std.specs.Prelude.{ℕ, cond, eqb, Float, None, Option, Some}
use Rattle.space.specs.declared.Point3f.{Point3f}
use Rattle.search.specs.declared.Nearest.{Nearest}
use Rattle.search.specs.declared.Nearest.TheVariants.{Found, Nothing}
use Rattle.sums.specs.declared.CorrespondenceStats.{CorrespondenceStats}
use Rattle.sums.specs.Vector.{zero_vector}
use Rattle.frame.specs.declared.LocalFrame.{LocalFrame}

abbrev pub point_of : Float → Float → Float → Point3f
point_of x y z = record { x = x; y = y; z = z }

-- a seed, unless the flag is 0
abbrev pub seed_of : ℕ → ℕ → Float → Nearest
seed_of seeded i d = cond (eqb seeded 0) Nothing (Found i d)

-- a limit, unless the flag is 0
abbrev pub limit_of : ℕ → Float → Option Float
limit_of limited d = cond (eqb limited 0) None (Some d)

-- sums of which only what enters the MSE is given
abbrev pub sums_of : ℕ → Float → CorrespondenceStats
sums_of n e =
    record {
      count = n;
      sum_source = zero_vector;
      sum_target = zero_vector;
      sum_outer_x = zero_vector;
      sum_outer_y = zero_vector;
      sum_outer_z = zero_vector;
      sum_sq_error = e;
    }

abbrev pub frame_at : Float → Float → Float → LocalFrame
frame_at x y z = record { origin = record { x = x; y = y; z = z } }
