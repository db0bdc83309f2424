-- `lay` writes the numbers of the points, slot by slot.
use mathlib.Core.Path.{refl, ◌∙◌}
use native.Mathlib.Omega.{arith}
use Rattle.tree.specs.Slots.{numbers_of}
use Rattle.select.proofs.Order.{inside-at}
use Rattle.build.proofs.Laying.{laid-further}
use Rattle.build.proofs.lay.Goals as goal

pub loop-i-init : goal.loop-i-init
unfolding numbers_of
loop-i-init c = refl

pub point-requires : goal.point-requires
point-requires c = omega (arith, inside-at c.requires.1 c.loop-i.i c.loop-i-test.true)

pub loop-i-preserved : goal.loop-i-preserved
loop-i-preserved c =
    c.put.ensures ∙ rw c.point.ensures (laid-further c.args.cloud.now c.args.indices.now c.loop-i.i c.args.coords.now _ c.loop-i-test.true (omega (arith, c.requires.0)) c.loop-i.invariant)
