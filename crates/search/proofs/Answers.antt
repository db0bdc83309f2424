-- What an entry promises beyond its rule follows from the rule: the answer that it holds is the search's, and the search meets the demands on the tree of a cloud. Assumes nothing.
use mathlib.Core.Path.{◌≡◌, refl, sym, ap, ◌∙◌}
use mathlib.Core.List.{List}
use Prim.Native.Nat.{ℕ, ◌^◌, ◌<◌}
use lib.Dec.{T}
use lib.ListN.{get_or}
use lib.Ieee.{Float, nan, binary32, fits}
use Rattle.bits.specs.Constants.{infinite}
use Rattle.space.specs.declared.Point3f.{Point3f}
use Rattle.std.proofs.Common.{Result, Ok}
use Rattle.tree.specs.Refusal.{outcome_of}
use Rattle.tree.specs.declared.Refusal.{Refusal}
use Rattle.tree.proofs.Outcomes.{tree-given}
use Rattle.search.specs.Search.{searched, bounded, unbounded}
use Rattle.search.specs.Demands.{MeetsDemand2, MeetsDemand3}
use Rattle.search.specs.declared.Nearest.{Nearest}
use Rattle.search.specs.declared.Nearest.TheVariants.{Nothing}
use Rattle.search.proofs.Demand2.{demand2}
use Rattle.search.proofs.Demand3.{demand3}

module _ (coords : List Float) (indices : List ℕ) (q : Point3f) (r : Result Nearest Refusal)
    (numbers : (i : ℕ) → T (fits binary32 (get_or coords i nan))) (small : (i : ℕ) → get_or indices i 0 < 2 ^ 32)
  where
    module _ (bound : Float) (seed : Nearest) (rule : outcome_of r ≡ bounded coords indices q bound seed) where
      pub answer-is : (answer : Nearest) → r ≡ Ok answer → answer ≡ searched coords indices q bound seed
      unfolding bounded
      answer-is answer e = (tree-given coords indices (ap outcome_of (sym e) ∙ rule)).2

      pub meets2 : MeetsDemand2 coords indices q bound seed r
      meets2 cloud answer is-tree e = rw (answer-is answer e) (demand2 q bound cloud coords indices seed numbers small is-tree)

      -- the two promises of bounded search
      pub both : (outcome_of r ≡ bounded coords indices q bound seed) × MeetsDemand2 coords indices q bound seed r
      both = (rule, meets2)

-- the three of unbounded search, from the two under the bound infinity
pub all_three : (coords : List Float) (indices : List ℕ) (q : Point3f) (r : Result Nearest Refusal) (bound : Float) → bound ≡ infinite
    → (outcome_of r ≡ bounded coords indices q bound Nothing) × MeetsDemand2 coords indices q bound Nothing r
    → (outcome_of r ≡ unbounded coords indices q) × (MeetsDemand2 coords indices q infinite Nothing r × MeetsDemand3 coords indices q r)
unfolding unbounded
all_three coords indices q r bound e two =
    let rule : outcome_of r ≡ bounded coords indices q infinite Nothing = rw e at two.0 in
    let second : MeetsDemand2 coords indices q infinite Nothing r = rw e at two.1 in (
      rule,
      (
        second,
        λ cloud answer is-tree is-answer some tame-cloud tame-q.
            demand3 cloud q tame-cloud tame-q some answer ((second cloud answer is-tree is-answer).unseeded refl),
      ),
    )
