-- `find_nearest_bounded`: refusals 1 and 2 of the tree, handed on, then the search; the demands follow from the rule.
use mathlib.Core.Path.{ap, ◌∙◌}
use Rattle.std.proofs.Common.{Ok}
use Rattle.tree.specs.Refuse.{gives}
use Rattle.tree.specs.Refusal.{outcome_of}
use Rattle.tree.proofs.Outcomes.{tree-told, tree-given, handed_on}
use Rattle.search.specs.Search.{bounded, searched}
use Rattle.search.proofs.Answers.{both}
use Rattle.search.proofs.find_nearest_bounded.Goals as goal

pub returns-in_err-tree-clause-rule : goal.returns-in_err-tree-clause-rule
unfolding bounded
returns-in_err-tree-clause-rule c =
    let a = c.args in
    ap outcome_of (handed_on _ _ c.from_residual.ensures.1)
    ∙ tree-told _ (gives (searched a.coords.now a.indices.now a.query a.bound_sq a.seed)) a.coords.now a.indices.now c.in_err-tree.ensures

pub returns : goal.returns
unfolding bounded
returns c =
    let a = c.args in
    let lent = (tree-given a.coords.now a.indices.now c.in_ok-tree.ensures).2 in
    let answer = c.nearest_in.ensures ∙ ap (λ t. searched t.coords t.indices a.query a.bound_sq a.seed) lent in
    let two = both a.coords.now a.indices.now a.query (Ok c.nearest_in.result) c.type_inv.coords (λ i. (c.type_inv.indices i).fits) a.bound_sq a.seed (ap gives answer ∙ tree-told _ _ a.coords.now a.indices.now c.in_ok-tree.ensures) in
    record { rule = two.0; demand2 = two.1 }
