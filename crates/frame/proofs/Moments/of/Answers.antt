-- `Moments::of`: the invariant is `Gathering`, and each turn is one point more.
use native.Mathlib.Omega.{arith}
use Rattle.frame.proofs.Gathering.{gathering-begins, gathering-goes, gathering-ends}
use Rattle.frame.proofs.Moments.of.Goals as goal

pub loop-i-init : goal.loop-i-init
loop-i-init c = gathering-begins _ c.zero-m.ensures

pub add-m-requires : goal.add-m-requires
add-m-requires c = let few = c.loop-i.invariant.few in omega arith

pub loop-i-preserved : goal.loop-i-preserved
loop-i-preserved c = gathering-goes c.loop-i.invariant (rw c.len-i-end.ensures.all at c.loop-i-test.true) _ c.point.ensures _ c.add-m.ensures

pub returns : goal.returns
returns c = gathering-ends c.loop-i.invariant (rw c.len-i-end.ensures.all at c.loop-i-test.false)
