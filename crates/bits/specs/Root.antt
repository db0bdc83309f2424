-- Document 01, "Square root": "Correctly rounded, f32 and f64, for +0, positives and infinity; by integer squares compared, no reals. -0 gives -0;
-- below zero or NaN gives a NaN." Definitions only.
use Rattle.std.specs.Prelude.{ℕ, zero, suc, ◌+◌, ◌*◌, ◌/◌, ◌^◌, true, false, cond, ◌==◌, nat_le, Float}
use Rattle.std.specs.Float.{nan, inf, fin, Format}
use Rattle.std.specs.Float.Ieee.{low, up, down, size, round}

-- the greatest number from s up to s + 2 ^ d - 1 whose square is at most n, digit by digit from the highest (s itself if there is none)
unfoldable pub root_digits : ℕ → ℕ → ℕ → ℕ
root_digits zero s n = s
root_digits (suc d) s n = let t = s + 2 ^ d in root_digits d (cond (nat_le (t * t) n) t s) n

-- the greatest s with s * s at most n
unfoldable pub whole_root : ℕ → ℕ
unfolding size root_digits
whole_root n = root_digits (suc (size n / 2)) 0 n

-- In units of the format's smallest value the root of x is s, or s and less than one more. Half a unit stands for what is cut off:
-- it lies on the same side of every value and every half-way point of the format, since s has far more digits than the format keeps.
-- That this is the correctly rounded root is a theorem (proofs/RootCorrect.antt), which no reader of this definition has to believe.
unfoldable pub root : Format → Float → Float
unfolding round whole_root
root f nan = nan
root f (inf true) = nan
root f (inf false) = inf false
root f (fin s zero e) = fin s zero e
root f (fin true (suc m) e) = nan
root f (fin false (suc m) e) =
    let n = suc m * up e * 2 ^ (low f + low f) / down e in
    let s = whole_root n in
    round f false (s + s + cond (s * s == n) 0 1) (2 ^ suc (low f))
