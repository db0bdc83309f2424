-- `Bounded::enters`: what is held against is the limit of the best. By hand, so that of a wrong body the check shows what differs.
use mathlib.Core.Path.{ap}
use lib.Ieee.{lt}
use Rattle.search.proofs.BoundedSearch.enters.Goals as goal

pub returns : goal.returns
returns c = λ asked room best h. ap (lt c.args.plane_sq) h.limit
