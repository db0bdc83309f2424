-- `Matched::sum_run`: the invariant is `Running`, and each turn is one entry more.
use native.Mathlib.Omega.{arith}
use Rattle.tree.proofs.Slots.{slots-get_or, slots_length}
use Rattle.sums.proofs.Runs.{running-goes, running-ends}
use Rattle.sums.proofs.Matched.sum_run.Goals as goal

pub loop-i-preserved : goal.loop-i-preserved
loop-i-preserved c =
    let self = c.args.self.now in
    running-goes c.loop-i.invariant (omega (arith, slots_length self.source self.matches.now))
    c.loop-i-test.true _ (slots-get_or _ _ _ (omega arith)) _ c.add_entry-stats.ensures

pub returns : goal.returns
returns c = running-ends c.loop-i.invariant c.loop-i-test.false
