-- `is_tree_of` meets its contract: each refusal, and the verdict.
use mathlib.Core.Path.{sym, ap, subst₂, ◌∙◌}
use mathlib.Core.List.{List}
use Prim.Native.Nat.{ℕ, ◌<◌}
use lib.ListN.{length}
use lib.Ieee.{Float}
use borrow.Author.Tests.{ne_eqb}
use Rattle.tree.specs.Lent.{Lent}
use Rattle.tree.specs.Cloud.{indexed}
use Rattle.tree.specs.Refuse.{gives, count}
use Rattle.tree.proofs.Outcomes.{cloud-given, tree-given}
use Rattle.build.specs.Check.{Decides, Found}
use Rattle.build.proofs.Verdict.{count_no, told}
use Rattle.build.proofs.is_tree_of.Goals as goal

pub returns-then-count_indexed-indices : goal.returns-then-count_indexed-indices
returns-then-count_indexed-indices c =
    let p = cloud-given c.args.cloud.now c.in_ok-cloud.ensures in
    let t = tree-given c.args.coords.now c.args.indices.now c.in_ok-tree.ensures in
    told c.args.cloud.now c.args.coords.now c.args.indices.now p.0 t.0 p.1 t.1 c.type_inv.cloud c.type_inv.coords
    (sym (c.count_indexed.ensures ∙ ap (λ (u : List Float). length (indexed u)) p.2) ∙ c.if-count_indexed-indices.true) _
    (subst₂ (λ (u : List Float) (v : Lent). Decides c.all_found.result ((k : ℕ) → k < count u → Found u v.coords v.indices k)) p.2 t.2 c.all_found.ensures)

pub returns-else-count_indexed-indices : goal.returns-else-count_indexed-indices
returns-else-count_indexed-indices c =
    let p = cloud-given c.args.cloud.now c.in_ok-cloud.ensures in
    let t = tree-given c.args.coords.now c.args.indices.now c.in_ok-tree.ensures in
    ap gives (ne_eqb _ _ c.if-count_indexed-indices.false)
    ∙ count_no c.args.cloud.now c.args.coords.now c.args.indices.now p.0 t.0 p.1 t.1 c.type_inv.cloud c.type_inv.coords
    (λ e. c.if-count_indexed-indices.false (c.count_indexed.ensures ∙ ap (λ (u : List Float). length (indexed u)) p.2 ∙ e))
