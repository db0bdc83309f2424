-- `name_slots`: after i turns the first i are indices.
use mathlib.Core.Path.{refl}
use lib.ListN.{get_or}
use Rattle.lists.proofs.Rule.{first-turn, first_all}
use Rattle.radius.proofs.Result.{name_in}
use Rattle.radius.proofs.name_slots.Goals as goal

pub bounds-indices-slot : goal.bounds-indices-slot
bounds-indices-slot c = let l = c.loop-slot in name_in c.args.indices.now c.args.slots.now l.slot-items l.slot-index c.args.count l.invariant c.loop-slot-test.true c.requires.1

pub loop-slot-preserved : goal.loop-slot-preserved
loop-slot-preserved c = let l = c.loop-slot in first-turn (λ j. get_or c.args.indices.now j 0) 0 _ l.slot-items l.slot-index _ c.loop-slot-test.true l.invariant refl

pub returns : goal.returns
returns c = first_all (λ j. get_or c.args.indices.now j 0) c.args.slots.now _ c.args.count _ c.loop-slot-test.false c.loop-slot.invariant
