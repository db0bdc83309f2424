use Rattle.build.proofs.Gathering.{Gathering}
use Rattle.build.proofs.gather.Given as goal

abbrev pub invariant-loop-i : goal.invariant-loop-i
invariant-loop-i l = Gathering l.cloud l.i l.m l.initial.indices l.indices
