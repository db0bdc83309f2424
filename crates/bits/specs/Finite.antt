-- Document 01, "The tree": "Only points with three finite coordinates are indexed". Definitions only.
use Rattle.std.specs.Prelude.{Bool, true, false, Float}
use Rattle.std.specs.Float.{nan, inf, fin}

-- no NaN and no infinity
unfoldable pub finite : Float → Bool
finite nan = false
finite (inf s) = false
finite (fin s m e) = true
