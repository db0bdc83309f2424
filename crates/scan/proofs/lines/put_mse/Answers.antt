-- `put_mse`: the three texts, one after the other.
use native.Mathlib.Omega.{arith}
use Rattle.scan.specs.Program.{mse_line}
use Rattle.text.proofs.Stores.{writes-length, writes_then}
use Rattle.text.proofs.Digits.{hex8-length}
use Rattle.scan.proofs.lines.put_mse.Goals as goal

pub put_text-requires-2 : goal.put_text-requires-2
put_text-requires-2 c = omega (arith, c.put_hex8.ensures.put.end, writes-length c.put_text.ensures, writes-length c.put_hex8.ensures, hex8-length c.f32_to_bits.result)

pub returns : goal.returns
unfolding mse_line
returns c = writes_then (writes_then c.put_text.ensures (rw c.f32_to_bits.ensures at c.put_hex8.ensures)) c.put_text-2.ensures
