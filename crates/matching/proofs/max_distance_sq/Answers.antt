-- `max_distance_sq`: below zero and without a limit, the case of `bound_of` that its tests lead to. By hand, so that of a wrong body the check shows what differs.
use mathlib.Core.Path.{◌≡◌, refl}
use mathlib.Core.Bool.{Bool, cond}
use lib.Ieee.{Float, lt, le, of_bits}
use Rattle.std.proofs.Common.{Option, Some}
use Rattle.bits.specs.Constants.{nought, infinite}
use Rattle.bits.specs.NextUp.{next_up}
use Rattle.space.specs.Distance.{square}
use Rattle.matching.specs.Limit.{bound_of}
use Rattle.matching.proofs.max_distance_sq.Goals as goal

-- each of the two arms has a name of its own for the distance
by_tests : {l : Option Float} (d e : Float) {a b : Bool} → l ≡ Some d → l ≡ Some e → lt d nought ≡ a → le nought e ≡ b → cond a nought (cond b (next_up (square e)) infinite) ≡ bound_of l
unfolding bound_of
by_tests d e p q r s = let same : d ≡ e = cc in rw (q, rw same at r, s)

pub returns-in-Some : goal.returns-in-Some
unfolding of_bits
returns-in-Some c = by_tests _ _ c.in-Some.is c.in-Some.is c.if-d.true refl

pub returns-in_default : goal.returns-in_default
unfolding of_bits
returns-in_default c = by_tests _ _ c.in-Some.is c.in-Some-2.is c.if-d.false c.if-d-2.false
