-- Demands 2 and 3 of the match list: each entry is the search's answer for its point, which meets them on the tree of the target.
use Prim.Native.Nat.{ℕ, ◌^◌, ◌<◌}
use mathlib.Core.Path.{◌≡◌, sym, ap, ◌∙◌, subst}
use mathlib.Core.List.{List}
use lib.Dec.{T}
use lib.ListN.{length, get_or}
use lib.Ieee.{Float, nan, binary32, fits}
use borrow.Author.Tests.{eq-eqb}
use Rattle.bits.specs.Constants.{infinite}
use Rattle.space.specs.Exact.{Tame}
use Rattle.tree.specs.Refuse.{count, no_match}
use Rattle.tree.specs.Slots.{point_at}
use Rattle.search.specs.declared.Nearest.TheVariants.{Nothing}
use Rattle.search.specs.Demands.{IsTree, near_first, LeastBelow, Demand2}
use Rattle.search.proofs.Demand2.{demand2}
use Rattle.search.proofs.Demand3.{demand3}
use Rattle.matching.specs.Matching.{seed_of, match_of, answer_for, match_all}
use Rattle.matching.specs.Promises.{Answered2, Nearest3}
use Rattle.matching.proofs.Entries.{entry_at}

module _ (source target coords : List Float) (indices : List ℕ) (bound : Float) (matches : List ℕ)
    (numbers : (i : ℕ) → T (fits binary32 (get_or coords i nan))) (small : (i : ℕ) → get_or indices i 0 < 2 ^ 32) (is-tree : IsTree target coords indices)
    (i : ℕ) (h : i < length matches)
  where
    at : get_or (match_all source target coords indices bound matches) i 0 ≡ match_of (answer_for source target coords indices bound i (get_or matches i 0))
    unfolding match_all
    at = entry_at (λ j s. match_of (answer_for source target coords indices bound j s)) matches i h

    met : Demand2 (point_at source i) (near_first target (point_at source i)) bound (seed_of target (point_at source i) (get_or matches i 0)) (answer_for source target coords indices bound i (get_or matches i 0))
    unfolding answer_for
    met = demand2 (point_at source i) bound target coords indices (seed_of target (point_at source i) (get_or matches i 0)) numbers small is-tree

    pub entry2 : Answered2 source target bound i (get_or matches i 0) (get_or (match_all source target coords indices bound matches) i 0)
    entry2 = record { answer = answer_for source target coords indices bound i (get_or matches i 0); is_entry = at; demand = met }

    no-seed : get_or matches i 0 ≡ no_match → seed_of target (point_at source i) (get_or matches i 0) ≡ Nothing
    unfolding seed_of
    no-seed e = simp (eq-eqb _ _ e)

    pub entry3 : bound ≡ infinite → ((j : ℕ) → j < count target → Tame (point_at target j)) → 0 < count target → get_or matches i 0 ≡ no_match → Tame (point_at source i)
        → Nearest3 source target i (get_or (match_all source target coords indices bound matches) i 0)
    entry3 e tame some none tame-q =
        let q = point_at source i in
        let a = answer_for source target coords indices bound i (get_or matches i 0) in
        let least = subst (λ (b : Float). LeastBelow q (near_first target q) b a) e (met.unseeded (no-seed none)) in
        let d = demand3 target q tame tame-q some a least in
        let m : d.index ≡ get_or (match_all source target coords indices bound matches) i 0 = sym (at ∙ ap match_of d.found) in
        subst (Nearest3 source target i) m (record { within = d.within; nearest = d.nearest })
