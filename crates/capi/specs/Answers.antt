-- Answers of the entries, taken apart for the C interface. Definitions only.
use Rattle.std.specs.Prelude.{ℕ, ◌*◌, Bool, cond, Option, None, Some, List, [], ◌∷◌, length, Float}
use Rattle.space.specs.declared.Point3f.{Point3f}
use Rattle.tree.specs.Refuse.{overwrite}
use Rattle.search.specs.declared.Nearest.{Nearest}
use Rattle.search.specs.declared.Nearest.TheVariants.{Found, Nothing}
use Rattle.matching.specs.TargetPoint.{no_point}
use Rattle.sums.specs.declared.Vector3d.{Vector3d}
use Rattle.sums.specs.declared.CorrespondenceStats.{CorrespondenceStats}
use Rattle.frame.specs.declared.CloudScale.{CloudScale}
use Rattle.frame.specs.declared.LocalFrame.{LocalFrame}

-- ---- yes or no

abbrev pub flag_of : Bool → ℕ
flag_of b = cond b 1 0

-- ---- what a search found: the flag; the index and the distance, which keep their values where nothing was found

abbrev pub is_found : Nearest → ℕ
is_found (Found i d) = 1
is_found Nothing = 0

abbrev pub found_index : ℕ → Nearest → ℕ
found_index old (Found i d) = i
found_index old Nothing = old

abbrev pub found_distance : Float → Nearest → Float
found_distance old (Found i d) = d
found_distance old Nothing = old

-- ---- where the three numbers of a point begin in its cloud, or the cloud's end

abbrev pub start_of : List Float → ℕ → ℕ
start_of cloud i = cond (no_point cloud i) (length cloud) (3 * i)

-- ---- numbers in the order in which they are written

abbrev pub vector_numbers : Vector3d → List Float
vector_numbers v = v.x ∷ v.y ∷ v.z ∷ []

abbrev pub point_numbers : Point3f → List Float
point_numbers p = p.x ∷ p.y ∷ p.z ∷ []

abbrev pub scale_numbers : CloudScale → List Float
scale_numbers s = s.centroid.x ∷ s.centroid.y ∷ s.centroid.z ∷ s.radius ∷ []

-- sum of p, sum of q, the nine sums of p_i·q_j by rows, sum of squared errors
abbrev pub sum_numbers : CorrespondenceStats → List Float
sum_numbers s =
    s.sum_source.x ∷ s.sum_source.y ∷ s.sum_source.z
    ∷ s.sum_target.x ∷ s.sum_target.y ∷ s.sum_target.z
    ∷ s.sum_outer_x.x ∷ s.sum_outer_x.y ∷ s.sum_outer_x.z
    ∷ s.sum_outer_y.x ∷ s.sum_outer_y.y ∷ s.sum_outer_y.z
    ∷ s.sum_outer_z.x ∷ s.sum_outer_z.y ∷ s.sum_outer_z.z
    ∷ s.sum_sq_error ∷ []

-- ---- a frame, or none: the flag; the origin, which keeps its values where there is none

abbrev pub is_far : Option LocalFrame → ℕ
is_far (Some f) = 1
is_far None = 0

abbrev pub origin_in : List Float → Option LocalFrame → List Float
origin_in old (Some f) = overwrite (vector_numbers f.origin) old
origin_in old None = old
