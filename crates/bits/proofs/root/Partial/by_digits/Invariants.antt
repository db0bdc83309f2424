use Rattle.std.proofs.Common.{◌*◌, ◌^◌, ◌<◌}
use Rattle.bits.specs.Partial.{IsRootSoFar}
use Rattle.bits.proofs.root.Partial.by_digits.Given as goal

abbrev pub invariant-loop : goal.invariant-loop
invariant-loop l = IsRootSoFar (l.ahead * (2 ^ l.counter * 2 ^ l.counter)) l.d × (l.d.root < 2 ^ l.counter)
