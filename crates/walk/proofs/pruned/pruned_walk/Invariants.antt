use lib.ListN.{length}
use lib.Seq.{slice}
use Rattle.walk.specs.Pruned.{Begins, walked}
use Rattle.walk.proofs.Stack.{load}
use Rattle.walk.proofs.Turns.{Turns}
use Rattle.walk.proofs.pruned.pruned_walk.Given as goal

abbrev pub invariant-loop-group : goal.invariant-loop-group
invariant-loop-group g l =
    let s = g.S.Search in
    (asked : s.Asked) (held : s.State) → Begins s.rule s.Holds (length l.tree.indices) l.query l.initial.search asked held
    → Turns s.rule s.Holds l.coords l.query asked (walked (s.rule asked) l.coords held) l.stack l.places l.free l.group l.search

abbrev pub decreases-loop-group : goal.decreases-loop-group
decreases-loop-group g l = load l.group (slice l.free l.places l.stack)
