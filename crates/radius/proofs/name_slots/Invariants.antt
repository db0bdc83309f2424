use mathlib.Core.Path.{◌≡◌}
use lib.ListN.{get_or}
use Rattle.lists.specs.Shift.{first_by}
use Rattle.radius.proofs.name_slots.Given as goal

abbrev pub invariant-loop-slot : goal.invariant-loop-slot
invariant-loop-slot l = l.slot-items ≡ first_by (λ j. get_or l.indices j 0) l.initial.slot-items l.slot-index
