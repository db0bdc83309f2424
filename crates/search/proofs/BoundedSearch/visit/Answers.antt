-- `Bounded::visit`: a slot that is strictly nearer than the limit that is held is the best. By hand, so that of a wrong body the check shows what differs.
use mathlib.Core.Path.{◌≡◌, refl, ap}
use mathlib.Core.Bool.{true}
use lib.ListN.{get_or}
use lib.Ieee.{lt}
use Rattle.search.specs.declared.Nearest.TheVariants.{Found}
use Rattle.search.specs.Search.{limit, visit}
use Rattle.search.proofs.BoundedSearch.visit.Goals as goal

pub returns-then-distance_sq-self : goal.returns-then-distance_sq-self
returns-then-distance_sq-self c = λ asked room best n met h.
    let s = c.args.self.now in
    let d = c.args.distance_sq in
    let nearer : lt d s.held.limit ≡ true = c.if-distance_sq-self.true in
    let replaced : Found (get_or s.indices.now c.args.at 0) d ≡ visit asked.query asked.bound n best = rw (h.indices, ← met.index, ← met.distance, ← h.limit, nearer) refl in
    record { indices = h.indices; best = replaced; limit = ap (limit asked.bound) replaced }
