-- `put_count`: the three texts, one after the other.
use native.Mathlib.Omega.{arith}
use Rattle.scan.specs.Program.{count_line}
use Rattle.text.proofs.Stores.{writes-length, writes_then}
use Rattle.text.proofs.Digits.{decimal-length}
use Rattle.scan.proofs.lines.put_count.Goals as goal

pub put_text-requires-2 : goal.put_text-requires-2
put_text-requires-2 c = omega (arith, c.put_decimal.ensures.put.end, writes-length c.put_text.ensures, writes-length c.put_decimal.ensures, decimal-length c.args.n)

pub returns : goal.returns
unfolding count_line
returns c = writes_then (writes_then c.put_text.ensures c.put_decimal.ensures) c.put_text-2.ensures
