-- `any_index_outside`: the test of each index is that of the rule.
use Rattle.std.proofs.Common.{not, ltb, rules, tests}
use mathlib.Core.Path.{◌∙◌}
use Rattle.std.proofs.lemmas.Iterator.{YieldsList-from_slice}
use Rattle.std.proofs.lemmas.Iterator.Search.{any_from_yields_List}
use Rattle.tree.proofs.Outside.{indices-any}
use Rattle.tree.proofs.any_index_outside.Goals as goal

pub returns : goal.returns
returns c =
    let a = c.args in
    any_from_yields_List (λ i. not (ltb i a.n)) _ _ _ c.any.ensures.ran (YieldsList-from_slice a.indices.now cc) (λ x b q k. search (rules, tests))
    ∙ indices-any a.n a.indices.now
