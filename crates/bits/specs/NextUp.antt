-- Document 01, "Limit to bound": "the next f32 above d·d, infinity staying infinity". The Rust's `f32::next_up`, for every input. Definitions only.
use Rattle.std.specs.Prelude.{zero, suc, ◌+◌, ◌-◌, true, false, negsuc, Float}
use Rattle.std.specs.Float.{nan, inf, fin, binary32}
use Rattle.std.specs.Float.Ieee.{to_bits, of_bits}

-- The least f32 above x: above either zero stands 2 ^ -149, above infinity nothing, so that it stays.
-- The bits of a positive number count up; those of a negative one, -infinity's too, count down.
unfoldable pub next_up : Float → Float
unfolding to_bits of_bits
next_up nan = nan
next_up (inf false) = inf false
next_up (inf true) = of_bits binary32 (to_bits binary32 (inf true) - 1)
next_up (fin s zero e) = fin false 1 (negsuc 148)
next_up (fin false (suc m) e) = of_bits binary32 (to_bits binary32 (fin false (suc m) e) + 1)
next_up (fin true (suc m) e) = of_bits binary32 (to_bits binary32 (fin true (suc m) e) - 1)
