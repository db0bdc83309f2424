-- The two values that document 01 names: zero, with which a difference is compared, and infinity, under which unbounded search stands. Definitions only.
use Rattle.std.specs.Prelude.{false, pos, Float}
use Rattle.std.specs.Float.{inf, fin}

abbrev pub nought : Float
nought = fin false 0 (pos 0)

abbrev pub infinite : Float
infinite = inf false
