-- `gather` stores the indices of the finite points, point by point.
use mathlib.Core.Path.{sym, ◌∙◌}
use Prim.Native.Nat.{◌<◌}
use native.Mathlib.Omega.{arith}
use lib.ListN.{length}
use Rattle.tree.specs.Refuse.{count}
use Rattle.build.proofs.Gathering.{gathering-start, gathering-few, gathering-yes, gathering-no, gathering-end}
use Rattle.build.proofs.gather.Goals as goal
use Rattle.build.proofs.gather.Goals.{then-is_indexed, else-is_indexed}

pub loop-i-init : goal.loop-i-init
loop-i-init c = gathering-start c.args.cloud.now c.args.indices.now

pub bounds-indices-m : goal.bounds-indices-m
bounds-indices-m c = omega (arith, gathering-few _ _ _ _ _ c.loop-i.invariant, c.len-i-end.ensures.all)

pub offset_bounds-indices-m : goal.offset_bounds-indices-m
offset_bounds-indices-m c = omega (arith, gathering-few _ _ _ _ _ c.loop-i.invariant, c.len-i-end.ensures.few)

pub overflow_add-m : goal.overflow_add-m
overflow_add-m c = omega (arith, gathering-few _ _ _ _ _ c.loop-i.invariant, c.len-i-end.ensures.few)

pub loop-i-preserved : goal.loop-i-preserved
loop-i-preserved c =
    let g = c.loop-i.invariant in
    let more : c.loop-i.i < count c.args.cloud.now = omega (arith, c.len-i-end.ensures.all) in
    let room : c.loop-i.m < length c.loop-i.indices = omega (arith, gathering-few _ _ _ _ _ g, c.len-i-end.ensures.all) in
    elim c.if-is_indexed.branch [
      | then-is_indexed w ↦ rw (w.m-is, w.indices-is) (gathering-yes _ _ _ _ _ more room g (sym c.is_indexed.ensures ∙ w.if-is_indexed.true))
      | else-is_indexed w ↦ rw (w.m-is, w.indices-is) (gathering-no _ _ _ _ _ more room g (sym c.is_indexed.ensures ∙ w.if-is_indexed.false))
    ]

pub returns : goal.returns
returns c = gathering-end c.args.cloud.now c.loop-i.i _ _ _ (omega (arith, c.len-i-end.ensures.all)) c.loop-i.invariant
