-- `put_refusal`: the three texts, one after the other.
use native.Mathlib.Omega.{arith}
use Rattle.scan.specs.Program.{refusal}
use Rattle.text.proofs.Stores.{writes-length, writes_then}
use Rattle.text.proofs.Digits.{decimal-length}
use Rattle.scan.proofs.lines.put_refusal.Goals as goal

pub put_text-requires-2 : goal.put_text-requires-2
put_text-requires-2 c = omega (arith, c.put_decimal.ensures.put.end, writes-length c.put_text.ensures, writes-length c.put_decimal.ensures, decimal-length c.number.result)

pub returns : goal.returns
unfolding refusal
returns c = writes_then (writes_then c.put_text.ensures (rw c.number.ensures at c.put_decimal.ensures)) c.put_text-2.ensures
