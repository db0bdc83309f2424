-- `pruned_walk`: each turn is one law of the stack, beside what the search holds.
use mathlib.Core.Path.{refl, sym, ap, ◌∙◌}
use native.Mathlib.Omega.{arith}
use Rattle.walk.specs.Node.{waits}
use Rattle.walk.proofs.Stack.{place, taken-less, left-out-less, kept_less, dropped-less}
use Rattle.walk.proofs.Turns.{turns-begun, turns-finish, judged, looked, turns-taken, turns-left-out, turns-kept, turns-dropped, now-holds}
use Rattle.tree.specs.Levels.{levels}
use Rattle.tree.proofs.Slots.{slots_length}
use Rattle.walk.proofs.pruned.pruned_walk.Goals as goal

pub loop-group-init : goal.loop-group-init
loop-group-init g c = λ a s b.
    let m = c.len-m.ensures.all in
    turns-begun b _ _ _ refl (rw m at c.len-m.ensures.few) (c.levels-places.ensures ∙ ap levels m) c.whole-group.ensures.0 (c.whole-group.ensures.1 ∙ m) c.whole-group.ensures.2

pub returns-then-free-places : goal.returns-then-free-places
returns-then-free-places g c = λ a s b.
    rw (← c.coords-coords.ensures.held) (turns-finish (c.loop-group.invariant a s b) c.if-group-eq0.true c.if-free-places.true)

pub offset_bounds-stack-free : goal.offset_bounds-stack-free
offset_bounds-stack-free g c = let r = c.requires in let i = (c.loop-group.invariant r.0 r.1 r.2).going in let t = i.top in let w = i.few in omega arith

pub bounds-stack-free : goal.bounds-stack-free
bounds-stack-free g c = let r = c.requires in let i = (c.loop-group.invariant r.0 r.1 r.2).going in let t = i.top in let w = i.few in omega arith

pub overflow_add-free : goal.overflow_add-free
overflow_add-free g c = let r = c.requires in let i = (c.loop-group.invariant r.0 r.1 r.2).going in let t = i.top in let w = i.few in omega arith

pub enters-requires : goal.enters-requires
enters-requires g c = let r = c.requires in judged (c.loop-group.invariant r.0 r.1 r.2)

pub loop-group-smaller-then-enters : goal.loop-group-smaller-then-enters
loop-group-smaller-then-enters g c = let r = c.requires in let i = (c.loop-group.invariant r.0 r.1 r.2).going in let t = i.top in taken-less i c.if-group-eq0.true (omega arith)

pub loop-group-preserved-then-enters : goal.loop-group-preserved-then-enters
loop-group-preserved-then-enters g c = λ a s b. let i = c.loop-group.invariant a s b in let t = i.going.top in turns-taken i c.if-group-eq0.true (omega arith) (sym (c.enters.ensures a i.room i.held i.holds) ∙ c.if-enters.true)

pub loop-group-smaller-else-enters : goal.loop-group-smaller-else-enters
loop-group-smaller-else-enters g c = let r = c.requires in let i = (c.loop-group.invariant r.0 r.1 r.2).going in let t = i.top in left-out-less i c.if-group-eq0.true (omega arith)

pub loop-group-preserved-else-enters : goal.loop-group-preserved-else-enters
loop-group-preserved-else-enters g c = λ a s b. let i = c.loop-group.invariant a s b in let t = i.going.top in turns-left-out i c.if-group-eq0.true (omega arith) (sym (c.enters.ensures a i.room i.held i.holds) ∙ c.if-enters.false)

pub look-node-requires : goal.look-node-requires
look-node-requires g c = let r = c.requires in let n = r.2.over in let k = c.coords-coords.ensures.even in let few = c.len-m.ensures.few in let all = c.len-m.ensures.all in let w = (c.loop-group.invariant r.0 r.1 r.2).going.within in omega (arith, slots_length c.coords-coords.result.now (g.S.Search.rule r.0).indices)

pub visit-requires : goal.visit-requires
visit-requires g c = let r = c.requires in looked (c.loop-group.invariant r.0 r.1 r.2) (omega arith)

pub enters-requires-else-group-eq0 : goal.enters-requires-else-group-eq0
enters-requires-else-group-eq0 g c = let r = c.requires in let i = c.loop-group.invariant r.0 r.1 r.2 in (r.0, _, _, now-holds i (omega arith) r.2.from c.look-node.result c.look-node.ensures _ c.visit.ensures)

pub overflow_sub-free : goal.overflow_sub-free
overflow_sub-free g c = let r = c.requires in omega (arith, place (c.loop-group.invariant r.0 r.1 r.2).going (omega arith))

pub offset_bounds-stack-free-then-waits : goal.offset_bounds-stack-free-then-waits
offset_bounds-stack-free-then-waits g c = let r = c.requires in omega (arith, place (c.loop-group.invariant r.0 r.1 r.2).going (omega arith))

pub bounds-stack-free-then-waits : goal.bounds-stack-free-then-waits
bounds-stack-free-then-waits g c = let r = c.requires in omega (arith, place (c.loop-group.invariant r.0 r.1 r.2).going (omega arith))

pub loop-group-smaller-then-waits : goal.loop-group-smaller-then-waits
loop-group-smaller-then-waits g c = let r = c.requires in kept_less _ _ (c.loop-group.invariant r.0 r.1 r.2).going (omega arith) _ c.look-node.ensures

pub loop-group-preserved-then-waits : goal.loop-group-preserved-then-waits
loop-group-preserved-then-waits g c = λ a s b. turns-kept (c.loop-group.invariant a s b) (omega arith) b.from c.look-node.result c.look-node.ensures _ c.visit.ensures

pub loop-group-smaller : goal.loop-group-smaller
loop-group-smaller g c = let r = c.requires in dropped-less _ _ (c.loop-group.invariant r.0 r.1 r.2).going (omega arith) _ c.look-node.ensures

pub loop-group-preserved : goal.loop-group-preserved
loop-group-preserved g c = λ a s b.
    let i = c.loop-group.invariant a s b in
    turns-dropped i (omega arith) b.from c.look-node.result c.look-node.ensures _ c.visit.ensures b.falling
    (ap (waits c.look-node.result.far) (sym (c.enters-else-group-eq0.ensures a _ _ (now-holds i (omega arith) b.from c.look-node.result c.look-node.ensures _ c.visit.ensures))) ∙ sym c.waits.ensures ∙ c.if-waits.false)
