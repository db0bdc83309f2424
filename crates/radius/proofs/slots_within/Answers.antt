-- `slots_within`: what is gathered, sorted by rank, is in the order of the definition.
use lib.ListN.{length}
use Rattle.radius.proofs.Result.{gathered-sortable, sorted-held}
use Rattle.radius.proofs.slots_within.Goals as goal

pub sort_first-requires : goal.sort_first-requires
sort_first-requires c =
    let a = c.args in
    let t = a.tree.now in
    let e = c.of.ensures in
    rw (e.0, e.1, e.2) (gathered-sortable t.coords (length t.indices) a.query a.radius (rw e.1 at c.of.result.few) c.gather-count.ensures)

pub returns : goal.returns
returns c =
    let a = c.args in
    let t = a.tree.now in
    let e = c.of.ensures in
    sorted-held t.coords (length t.indices) a.query a.radius (rw e.1 at c.of.result.few) c.gather-count.ensures (rw (e.0, e.1, e.2) at c.sort_first.ensures)
