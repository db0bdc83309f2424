use Rattle.frame.proofs.Gathering.{Gathering}
use Rattle.frame.proofs.Moments.of.Given as goal

abbrev pub invariant-loop-i : goal.invariant-loop-i
invariant-loop-i l = Gathering l.cloud l.m l.i
