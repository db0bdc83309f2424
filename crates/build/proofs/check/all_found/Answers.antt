-- `all_found` asks after every point, until one is missing.
use Rattle.std.proofs.Common.{arith, rules, tests}
use Rattle.std.proofs.lemmas.Iterator.{YieldsList-from_range, cases_from_all}
use Rattle.tree.specs.Refuse.{count}
use Rattle.build.specs.Check.{Found}
use Rattle.build.proofs.Descending.{all-decided}
use Rattle.build.proofs.check.all_found.Goals as goal

pub returns : goal.returns
returns c =
    let found = Found c.args.cloud.now c.args.tree.now.coords c.args.tree.now.indices in
    let n = count c.args.cloud.now in
    all-decided found n _
    (cases_from_all _ _ _ found (λ i. found i → ⊥) c.all.ensures.ran (YieldsList-from_range 0 n n (cc) (omega arith)) (λ x q k. search (rules, tests)) (λ x q k. search (rules, tests)))
