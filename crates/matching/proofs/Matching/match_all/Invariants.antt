-- `Matching::match_all`: the invariant is that the first i entries are written, and the rest are the seeds.
use mathlib.Core.Path.{◌≡◌}
use Rattle.matching.specs.Matching.{match_of, answer_for}
use Rattle.matching.proofs.Entries.{after}
use Rattle.matching.proofs.Matching.match_all.Given as goal

abbrev pub invariant-loop-i : goal.invariant-loop-i
invariant-loop-i l =
    let self = l.self in
    l.matches ≡ after (λ i s. match_of (answer_for self.source self.target self.tree.coords self.tree.indices self.bound_sq i s)) l.initial.matches l.i
