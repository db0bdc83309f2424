-- `any_entry_outside`: the test of each entry is that of the rule.
use Rattle.std.proofs.Common.{not, ◌&&◌, eqb, ltb, rules, tests}
use mathlib.Core.Path.{◌∙◌}
use Rattle.std.proofs.lemmas.Iterator.{YieldsList-from_slice}
use Rattle.std.proofs.lemmas.Iterator.Search.{any_from_yields_List}
use Rattle.tree.specs.Refuse.{no_match}
use Rattle.tree.proofs.Outside.{entries-any}
use Rattle.tree.proofs.any_entry_outside.Goals as goal

pub returns : goal.returns
returns c =
    let a = c.args in
    any_from_yields_List (λ i. not (eqb i no_match) && not (ltb i a.n)) _ _ _ c.any.ensures.ran (YieldsList-from_slice a.entries.now cc) (λ x b q k. search (rules, tests))
    ∙ entries-any a.n a.entries.now
