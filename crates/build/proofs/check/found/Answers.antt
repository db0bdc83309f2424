-- `found` asks after indexed points only.
use mathlib.Core.Path.{sym, ◌∙◌}
use Rattle.build.proofs.Descending.{found-by, found-free}
use Rattle.build.proofs.check.found.Goals as goal

pub returns-then-not-is_indexed : goal.returns-then-not-is_indexed
returns-then-not-is_indexed c =
    rw c.if-not-is_indexed.true (found-free c.args.cloud.now c.args.tree.now.coords c.args.tree.now.indices c.args.i (sym c.is_indexed.ensures ∙ c.if-not-is_indexed.true))

pub returns-else-not-is_indexed : goal.returns-else-not-is_indexed
returns-else-not-is_indexed c =
    found-by c.args.cloud.now c.args.tree.now.coords c.args.tree.now.indices c.args.i c.reached.result (sym c.is_indexed.ensures ∙ c.if-not-is_indexed.false) c.reached.ensures
