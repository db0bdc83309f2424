-- `Nearest::first`: a seed is kept where it is below the bound, and dropped otherwise.
use Rattle.search.proofs.Best.{kept, dropped}
use Rattle.search.proofs.Nearest.first.Goals as goal

pub returns-in-Found : goal.returns-in-Found
returns-in-Found c = kept _ _ _ _ c.in-Found.is c.if-d-bound_sq.true

pub returns-in_default : goal.returns-in_default
returns-in_default c = dropped _ _ _ _ c.in-Found.is c.if-d-bound_sq.false
