-- Document 01, "Port order": "Widening and narrowing come from the bits where `as` doesn't carry them". Definitions only.
use Rattle.std.specs.Prelude.{◌*◌, Float}
use Rattle.std.specs.Float.{nan, inf, fin, binary32}
use Rattle.std.specs.Float.Ieee.{up, down, round}

-- f32 to f64: the same number, which both formats write in one way; a NaN stays a NaN
unfoldable pub widen : Float → Float
widen x = x

-- f64 to f32: rounded to nearest even, once; a NaN stays a NaN
unfoldable pub narrow : Float → Float
unfolding round
narrow nan = nan
narrow (inf s) = inf s
narrow (fin s m e) = round binary32 s (m * up e) (down e)
