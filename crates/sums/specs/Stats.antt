-- Document 01, "Matching, sums and frames": the sums of matched pairs, and their MSE. Definitions only.
use Rattle.std.specs.Prelude.{◌+◌, cond, pos, eqb, Float}
use Rattle.std.specs.Float.{binary64}
use Rattle.std.specs.Float.Ieee.{add, div, of_int}
use Rattle.bits.specs.Constants.{nought}
use Rattle.bits.specs.Convert.{narrow}
use Rattle.space.specs.declared.Point3f.{Point3f}
use Rattle.sums.specs.declared.CorrespondenceStats.{CorrespondenceStats}
use Rattle.sums.specs.Vector.{zero_vector, wide_point, plus, minus, times, norm_squared}

-- the sums of nothing
abbrev pub zero_sums : CorrespondenceStats
zero_sums =
    record {
      count = 0;
      sum_source = zero_vector;
      sum_target = zero_vector;
      sum_outer_x = zero_vector;
      sum_outer_y = zero_vector;
      sum_outer_z = zero_vector;
      sum_sq_error = nought;
    }

-- One matched pair p, q more: "count, sum of p, sum of q, the nine sums of p_i·q_j, sum of (ex·ex + ey·ey) + ez·ez with e = p - q".
-- A row of the nine for each coordinate of p.
unfoldable pub add_pair : CorrespondenceStats → Point3f → Point3f → CorrespondenceStats
unfolding add
add_pair s source target =
    let p = wide_point source in
    let q = wide_point target in
    record {
      count = s.count + 1;
      sum_source = plus s.sum_source p;
      sum_target = plus s.sum_target q;
      sum_outer_x = plus s.sum_outer_x (times p.x q);
      sum_outer_y = plus s.sum_outer_y (times p.y q);
      sum_outer_z = plus s.sum_outer_z (times p.z q);
      sum_sq_error = add binary64 s.sum_sq_error (norm_squared (minus p q));
    }

-- the sums of two runs, the earlier one first
unfoldable pub merge_sums : CorrespondenceStats → CorrespondenceStats → CorrespondenceStats
unfolding add
merge_sums s t =
    record {
      count = s.count + t.count;
      sum_source = plus s.sum_source t.sum_source;
      sum_target = plus s.sum_target t.sum_target;
      sum_outer_x = plus s.sum_outer_x t.sum_outer_x;
      sum_outer_y = plus s.sum_outer_y t.sum_outer_y;
      sum_outer_z = plus s.sum_outer_z t.sum_outer_z;
      sum_sq_error = add binary64 s.sum_sq_error t.sum_sq_error;
    }

-- "MSE: 0 for count 0, else sum/count narrowed to f32"
unfoldable pub mse : CorrespondenceStats → Float
unfolding narrow div of_int
mse s = cond (eqb s.count 0) nought (narrow (div binary64 s.sum_sq_error (of_int binary64 (pos s.count))))
