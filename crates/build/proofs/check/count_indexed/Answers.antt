-- `count_indexed` counts the indexed points.
use Rattle.std.proofs.Common.{◌∙◌, ap, length, arith, rules, tests}
use Rattle.std.proofs.lemmas.Iterator.{YieldsList-from_range}
use Rattle.std.proofs.lemmas.Iterator.Consumers.{YieldsList-from_filter, count_from_yields_List}
use Rattle.tree.specs.Slots.{point_at}
use Rattle.tree.specs.Cloud.{finite_point}
use Rattle.tree.specs.Refuse.{count}
use Rattle.tree.proofs.Cloud.{up_to-all}
use Rattle.build.proofs.Descending.{counted}
use Rattle.build.proofs.check.count_indexed.Goals as goal

pub returns : goal.returns
returns c =
    let cloud = c.args.cloud.now in
    count_from_yields_List c.filter.result _ c.count.ensures.ran
    (YieldsList-from_filter _ (λ i. finite_point (point_at cloud i)) (YieldsList-from_range 0 (count cloud) (count cloud) (cc) (omega arith)) c.filter.ensures.closure (λ x b q k. search (rules, tests)))
    ∙ counted cloud (count cloud) (omega arith)
    ∙ ap length (up_to-all cloud (count cloud) (omega arith))
