-- `put_pair`: the four texts, one after the other.
use native.Mathlib.Omega.{arith}
use Rattle.scan.specs.Program.{pair_line}
use Rattle.text.proofs.Stores.{writes-length, writes_then}
use Rattle.text.proofs.Digits.{decimal-length}
use Rattle.scan.proofs.lines.put_pair.Goals as goal

pub put_text-requires : goal.put_text-requires
put_text-requires c = omega (arith, c.put_decimal.ensures.put.end, writes-length c.put_decimal.ensures, decimal-length c.args.source)

pub put_decimal-requires-2 : goal.put_decimal-requires-2
put_decimal-requires-2 c = omega (arith, c.put_decimal.ensures.put.end, c.put_text.ensures.put.end, writes-length c.put_decimal.ensures, writes-length c.put_text.ensures, decimal-length c.args.source)

pub put_text-requires-2 : goal.put_text-requires-2
put_text-requires-2 c =
    omega (arith, c.put_decimal.ensures.put.end, c.put_text.ensures.put.end, c.put_decimal-2.ensures.put.end, writes-length c.put_decimal.ensures, writes-length c.put_text.ensures, writes-length c.put_decimal-2.ensures, decimal-length c.args.source, decimal-length c.args.target)

pub returns : goal.returns
unfolding pair_line
returns c = writes_then (writes_then (writes_then c.put_decimal.ensures c.put_text.ensures) c.put_decimal-2.ensures) c.put_text-2.ensures
