-- `bits::root::Partial::by_digits` meets its contract: after so many digits the number is one times 4 to that power. Assumes nothing.
use Rattle.std.proofs.Common.{lt_of_lt_of_le, arith, pow_mono}
use Rattle.bits.proofs.RootSteps.{turn, more-digits}
use Rattle.bits.proofs.root.Partial.by_digits.Goals as goal

pub longer-d-requires-clause-length : goal.longer-d-requires-clause-length
longer-d-requires-clause-length c = lt_of_lt_of_le c.loop.invariant.1 (pow_mono {j = 60} (omega arith))

pub loop-preserved : goal.loop-preserved
loop-preserved c =
    let l = c.loop in
    let e = c.longer-d.ensures in (
      record { number = turn _ _ _ l.counter l.invariant.0.number e.number.number; largest = e.number.largest },
      more-digits l.d.root c.longer-d.result.root l.counter l.invariant.1 e.length,
    )
