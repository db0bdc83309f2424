-- `write_pairs`: the invariant is that the pairs of the first i entries stand in both lists, and the rest of each is as it was.
use Prim.Native.Nat.{◌≤◌}
use mathlib.Core.Path.{◌≡◌}
use lib.ListN.{length, take}
use Rattle.tree.specs.Refuse.{overwrite}
use Rattle.matching.specs.Pairs.{pairs, sources_of, targets_of}
use Rattle.matching.proofs.write_pairs.Given as goal

abbrev pub invariant-loop-i : goal.invariant-loop-i
invariant-loop-i l =
    (l.n ≤ l.i) × (l.n ≡ length (pairs (take l.i l.matches)))
    × (l.sources ≡ overwrite (sources_of (pairs (take l.i l.matches))) l.initial.sources) × (l.targets ≡ overwrite (targets_of (pairs (take l.i l.matches))) l.initial.targets)
