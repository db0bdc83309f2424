-- `find_correspondences_seeded`: a refusal of the lines before the search, or the list that the loop writes.
use Prim.Native.Nat.{ℕ, ◌^◌, ◌<◌}
use mathlib.Core.Path.{◌≡◌, ap, ◌∙◌}
use mathlib.Core.List.{List}
use lib.Dec.{T as Holds}
use lib.ListN.{get_or}
use lib.Ieee.{Float, nan, binary32, fits}
use Rattle.std.proofs.Common.{Ok, Err, Option}
use Rattle.tree.specs.Refuse.{refused, gives, returned, left}
use Rattle.tree.specs.Refusal.{number_of}
use Rattle.tree.specs.declared.Refusal.{Refusal}
use Rattle.tree.proofs.Outcomes.{handed_on}
use Rattle.matching.specs.Limit.{bound_of}
use Rattle.matching.specs.Matching.{match_all, match_in}
use Rattle.matching.specs.Promises.{Matches, done}
use Rattle.matching.proofs.Refusals.{Ruled, refused-too, free-too, clear}
use Rattle.matching.proofs.Inside.{matches-inside}
use Rattle.matching.proofs.Demands.{entry2, entry3}
use Rattle.matching.proofs.find_correspondences_seeded.Goals as goal

module _ (S T C : List Float) (I : List ℕ) (l : Option Float) (M : List ℕ) where
  -- a refusal keeps the list, and owes no demand
  refuses : (k : Refusal) → Ruled S T C I M (refused (number_of k)) → Matches S T C I l M (Err k) M
  unfolding match_in
  refuses k ruled =
      let e = refused-too S T C I M (number_of k) (gives (match_all S T C I (bound_of l) M)) ruled in
      record {
        returns = ap (returned done) e;
        list_left = ap (left (λ m. m) M) e;
        inside = λ d. cc;
        demand2 = λ d. cc;
        demand3 = λ d. cc;
      }

  -- and the list is written
  module _ (numbers : (i : ℕ) → Holds (fits binary32 (get_or C i nan))) (small : (i : ℕ) → get_or I i 0 < 2 ^ 32) where
    writes : {b : Float} {M' : List ℕ} → Ruled S T C I M (gives tt) → b ≡ bound_of l → M' ≡ match_all S T C I b M → Matches S T C I l M (Ok tt) M'
    unfolding match_in
    writes {b} {M'} ruled p q =
        let e = free-too S T C I M (gives (match_all S T C I (bound_of l) M)) ruled in
        let m : M' ≡ match_all S T C I (bound_of l) M = q ∙ ap (λ (x : Float). match_all S T C I x M) p in
        record {
          returns = ap (returned done) e;
          list_left = m ∙ ap (left (λ x. x) M) e;
          inside = λ d. rw m (matches-inside S T C I (bound_of l) M (clear S T C I M ruled));
          demand2 = λ d is-tree i h. rw m (entry2 S T C I (bound_of l) M numbers small is-tree i h);
          demand3 = λ d is-tree tame f i h none tame-q. rw m (entry3 S T C I (bound_of l) M numbers small is-tree i h f tame (clear S T C I M ruled).some_target none tame-q);
        }

pub returns-in_err-check_lent : goal.returns-in_err-check_lent
returns-in_err-check_lent c = let a = c.args in rw (handed_on _ _ c.from_residual.ensures.1) (refuses a.source.now a.target.now a.coords.now a.indices.now a.limit a.matches.now _ c.in_err-check_lent.ensures)

pub returns : goal.returns
returns c = let a = c.args in writes a.source.now a.target.now a.coords.now a.indices.now a.limit a.matches.now c.type_inv.coords (λ i. (c.type_inv.indices i).fits) c.in_ok-check_lent.ensures c.max_distance_sq.ensures (rw (c.new.ensures, c.new-2.ensures, c.new-3.ensures) at c.match_all.ensures)
