-- `count_matched`: the invariant is that the entries so far have n pairs.
use Prim.Native.Nat.{◌≤◌}
use mathlib.Core.Path.{◌≡◌}
use lib.ListN.{length, take}
use Rattle.matching.specs.Pairs.{pairs}
use Rattle.matching.proofs.count_matched.Given as goal

abbrev pub invariant-loop-m : goal.invariant-loop-m
invariant-loop-m l = (l.n ≤ l.m-index) × (l.n ≡ length (pairs (take l.m-index l.matches)))
