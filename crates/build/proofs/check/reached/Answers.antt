-- `reached` goes down from the root. The invariant: the point is reached just if it is reached in the group at hand.
use mathlib.Core.Path.{◌≡◌, ap, ap₂, ◌∙◌}
use mathlib.Core.List.{List}
use Prim.Native.Nat.{ℕ}
use native.Mathlib.Omega.{arith}
use lib.ListN.{get_or}
use lib.Ieee.{Float}
use Rattle.tree.specs.Slots.{slot, point_at, rank}
use Rattle.select.specs.Order.{slot_of}
use Rattle.build.proofs.Descending.{descending-start, descending-left, descending-right, descending-here, descending-end, decides-by}
use Rattle.build.proofs.check.reached.Goals as goal
use Rattle.build.proofs.check.reached.Goals.{After-next_axis-deeper}

mine : (c : After-next_axis-deeper) → c.rank_at-mine.result ≡ rank c.loop-count.axis (slot_of c.args.cloud.now c.args.i)
mine c = c.rank_at-mine.ensures ∙ ap (λ (u : List Float). rank c.loop-count.axis (slot_of u c.args.i)) c.numbers.ensures.held

here : (c : After-next_axis-deeper)
    → c.rank_at-here.result ≡ rank c.loop-count.axis (slot (point_at c.args.tree.now.coords c.loop-count.start) (get_or c.args.tree.now.indices c.loop-count.start 0))
here c =
    c.rank_at-here.ensures
    ∙ ap₂ (λ (u : List Float) (v : List ℕ). rank c.loop-count.axis (slot (point_at u c.loop-count.start) (get_or v c.loop-count.start 0))) c.coords.ensures.held c.indices.ensures.held

pub loop-count-init : goal.loop-count-init
loop-count-init c = rw c.indices-count.ensures.held (descending-start (slot_of c.args.cloud.now c.args.i) c.args.tree.now.coords c.args.tree.now.indices)

pub loop-count-preserved-then-mine-here : goal.loop-count-preserved-then-mine-here
loop-count-preserved-then-mine-here c =
    let at = (goal.at.loop-count-preserved-then-mine-here c).After-next_axis-deeper in
    descending-left _ _ _ _ _ _ c.loop-count.invariant c.loop-count-test.true _ c.next_axis-deeper.ensures.0 c.next_axis-deeper.ensures.1 (omega (arith, c.if-mine-here.true, mine at, here at))

pub loop-count-preserved : goal.loop-count-preserved
loop-count-preserved c =
    let at = (goal.at.loop-count-preserved c).After-next_axis-deeper in
    descending-right _ _ _ _ _ _ c.loop-count.invariant c.loop-count-test.true _ c.next_axis-deeper.ensures.0 c.next_axis-deeper.ensures.1 (omega (arith, c.if-here-mine.true, mine at, here at))

pub returns-else-here-mine : goal.returns-else-here-mine
returns-else-here-mine c =
    let at = (goal.at.returns-else-here-mine c).After-next_axis-deeper in
    decides-by c.holds.result (descending-here _ _ _ _ _ _ c.loop-count.invariant c.loop-count-test.true (omega (arith, c.if-here-mine.false, c.if-mine-here.false, mine at, here at))) c.holds.ensures

pub returns : goal.returns
returns c = descending-end _ _ _ _ _ _ c.loop-count.invariant c.loop-count-test.false
