use Rattle.std.proofs.Common.{◌≡◌, take}
use Rattle.tree.specs.Slots.{numbers_of}
use Rattle.tree.specs.Refuse.{overwrite}
use Rattle.select.specs.Order.{slots_of}
use Rattle.build.proofs.lay.Given as goal

abbrev pub invariant-loop-i : goal.invariant-loop-i
invariant-loop-i l = l.coords ≡ overwrite (numbers_of (slots_of l.cloud (take l.i l.indices))) l.initial.coords
