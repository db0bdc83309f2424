-- `find_nearest`: bounded search under infinity, without a seed.
use Rattle.search.proofs.Answers.{all_three}
use Rattle.search.proofs.find_nearest.Goals as goal

pub returns : goal.returns
returns c =
    let all = all_three _ _ _ _ _ c.infinity.ensures (c.find_nearest_bounded.ensures.rule, c.find_nearest_bounded.ensures.demand2) in
    record { rule = all.0; demand2 = all.1.0; demand3 = all.1.1 }
