-- `put_pairs`: the lines of the pairs that are left are to be written from the present place on.
use native.Mathlib.Omega.{arith}
use mathlib.Core.Path.{ap}
use lib.ListN.{length}
use Rattle.std.proofs.lemmas.Iterator.{empty_from_Zip}
use Rattle.text.proofs.Stores.{writes-length}
use Rattle.scan.proofs.Lengths.{pair_line-length, no-pair, one-pair}
use Rattle.scan.proofs.lines.put_pairs.Goals as goal

pub loop-source-preserved : goal.loop-source-preserved
loop-source-preserved c =
    let next = c.in-Some.ensures.steps in
    let line = c.put_pair.ensures in (
      omega (arith, ap length next.0, ap length next.1),
      omega (arith, ap length next.0, line.put.end, writes-length line, pair_line-length c.in-Some.field-0-0.now c.in-Some.field-0-1.now),
      one-pair next.0 next.1 c.loop-source.invariant.2 line,
    )

pub returns : goal.returns
returns c =
    let end = empty_from_Zip _ c.next.new.self _ c.in-None.is c.next.ensures.steps c.loop-source.invariant.0 in
    no-pair _ end.0 c.loop-source.invariant.2 (omega arith)
