use mathlib.Core.Path.{◌≡◌}
use lib.ListN.{length, take}
use Rattle.scan.specs.Input.{numbers}
use Rattle.scan.proofs.input.read_numbers.Given as goal

abbrev pub invariant-loop-i : goal.invariant-loop-i
invariant-loop-i l = (length l.x-items ≡ l.n) × (take l.i l.x-items ≡ numbers l.bytes 0 l.i)
