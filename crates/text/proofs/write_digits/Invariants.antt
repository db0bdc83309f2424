use mathlib.Core.Path.{◌≡◌}
use lib.ListN.{length}
use lib.Seq.{sets}
use Rattle.text.specs.Text.{digits}
use Rattle.text.proofs.write_digits.Given as goal

abbrev pub invariant-loop-i : goal.invariant-loop-i
invariant-loop-i l = (length l.out ≡ length l.initial.out) × (sets l.out 0 (digits l.base l.i l.rest) ≡ sets l.initial.out 0 (digits l.base (length l.initial.out) l.n))
