-- An entry's contract fixes the answer and both lent lists: any two outcomes that it allows are the same. Assumes nothing.
use mathlib.Core.Path.{◌≡◌, sym, ◌∙◌}
use mathlib.Core.List.{List}
use Prim.Native.Nat.{ℕ}
use lib.Ieee.{Float}
use Rattle.space.specs.declared.Point3f.{Point3f}
use Rattle.tree.specs.Refuse.{Outcome}
use Rattle.lists.specs.Entry.{Entry}
use Rattle.lists.specs.Entries.{Written, NearestWritten}
use Rattle.std.proofs.Common.{Result}
use Rattle.tree.specs.declared.Refusal.{Refusal}
use Rattle.tree.proofs.Outcomes.{outcome-tells}

pub record Same (r : Result ℕ Refusal) (is : List ℕ) (ds : List Float) (r' : Result ℕ Refusal) (is' : List ℕ) (ds' : List Float) : Type 0 where
  pub answer : r ≡ r'
  pub indices : is ≡ is'
  pub distances : ds ≡ ds'

pub written-determined : {rule : Outcome (List Entry)} {handed : List Entry → List Float} {is₀ : List ℕ} {ds₀ : List Float} {r : Result ℕ Refusal} {is : List ℕ} {ds : List Float} {r' : Result ℕ Refusal} {is' : List ℕ} {ds' : List Float}
    → Written rule handed is₀ ds₀ r is ds → Written rule handed is₀ ds₀ r' is' ds' → Same r is ds r' is' ds'
written-determined {r = r} {r' = r'} a b =
    record {
      answer = outcome-tells r r' (a.answer ∙ sym b.answer);
      indices = a.indices ∙ sym b.indices;
      distances = a.distances ∙ sym b.distances;
    }

-- both entries of k nearest: `handed` is squares_in or roots_in
pub nearest-determined : {handed : List Entry → List Float} {coords : List Float} {indices : List ℕ} {q : Point3f} {k : ℕ} {is₀ : List ℕ} {ds₀ : List Float} {r : Result ℕ Refusal} {is : List ℕ} {ds : List Float} {r' : Result ℕ Refusal} {is' : List ℕ} {ds' : List Float}
    → NearestWritten handed coords indices q k is₀ ds₀ r is ds → NearestWritten handed coords indices q k is₀ ds₀ r' is' ds' → Same r is ds r' is' ds'
nearest-determined a b = written-determined a.written b.written
