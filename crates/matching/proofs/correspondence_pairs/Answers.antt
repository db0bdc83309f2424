-- `correspondence_pairs`: each way back is the line of `pairs_in` that its tests lead to. By hand, so that of a wrong body the check shows what differs.
use Prim.Native.Nat.{ℕ, ◌≤◌, ◌<◌}
use mathlib.Core.Path.{◌≡◌, refl, ap, ◌∙◌}
use mathlib.Core.Logic.{◌⊎◌, inl, inr}
use mathlib.Core.List.{List}
use lib.ListN.{length}
use borrow.Author.Tests.{lt-ltb, le-ltb}
use Rattle.std.proofs.Common.{Result, Ok, Err}
use Rattle.tree.specs.Refuse.{Outcome, refused, gives, returned, left, most_points}
use Rattle.tree.specs.Refusal.{outcome_of}
use Rattle.tree.specs.declared.Refusal.{Refusal}
use Rattle.tree.specs.declared.Refusal.TheVariants.{ShortOutput}
use Rattle.matching.specs.Pairs.{Written, written, pairs, pairs_in}
use Rattle.matching.specs.Promises.{ListsPairs}
use Rattle.matching.proofs.correspondence_pairs.Goals as goal

-- n is the number of the pairs
module _ (M S T : List ℕ) {n : ℕ} (counted : n ≡ length (pairs M)) (few : length M ≤ most_points) where
  lacks : (length S < n) ⊎ ((n ≤ length S) × (length T < n)) → refused 3 ≡ pairs_in M S T
  unfolding pairs_in
  lacks (inl s) = simp (le-ltb _ _ few, ← counted, lt-ltb _ _ s)
  lacks (inr t) = simp (le-ltb _ _ few, ← counted, le-ltb _ _ t.0, lt-ltb _ _ t.1)

  room : n ≤ length S → n ≤ length T → gives (written (pairs M) S T) ≡ pairs_in M S T
  unfolding pairs_in
  room s t = simp (le-ltb _ _ few, le-ltb _ _ (rw counted at s), le-ltb _ _ (rw counted at t))

-- an outcome says what is returned and what is left
listed : (M S T : List ℕ) (r : Result ℕ Refusal) {o : Outcome Written} → outcome_of r ≡ returned (λ w. w.number) o → o ≡ pairs_in M S T
    → ListsPairs M S T r (left (λ w. w.sources) S o) (left (λ w. w.targets) T o)
listed M S T r p e = record { returns = p ∙ ap (returned (λ w. w.number)) e; sources_left = ap (left (λ w. w.sources) S) e; targets_left = ap (left (λ w. w.targets) T) e }

pub returns-then-sources-n : goal.returns-then-sources-n
returns-then-sources-n c = let a = c.args in listed a.matches.now a.sources.now a.targets.now (Err ShortOutput) refl (lacks a.matches.now a.sources.now a.targets.now c.count_matched-n.ensures c.if-matches-gt-MAX_POINTS.false c.then-sources-n.either)

pub returns : goal.returns
returns c =
    let a = c.args in
    let n = c.count_matched-n in
    let w = c.write_pairs.ensures in
    let l = listed a.matches.now a.sources.now a.targets.now (Ok n.result) (ap gives n.ensures) (room a.matches.now a.sources.now a.targets.now n.ensures c.if-matches-gt-MAX_POINTS.false c.if-sources-n.false c.if-targets-n.false) in
    record { returns = l.returns; sources_left = w.0 ∙ l.sources_left; targets_left = w.1 ∙ l.targets_left }
