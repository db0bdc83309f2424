-- Matching in the tree of the target refuses nothing, and each entry that it writes names a target point or none.
use Prim.Native.Nat.{ℕ, zero, suc, ◌*◌, ◌/◌, ◌%◌, ◌≤◌, ◌<◌}
use native.Mathlib.Omega.{arith}
use mathlib.Core.Path.{◌≡◌, refl, sym, ap, ◌∙◌, subst}
use mathlib.Core.Bool.{Bool, true, false, not, ◌&&◌, ◌||◌}
use mathlib.Core.Logic.{◌⊎◌, inl, inr, ⊎_elim}
use mathlib.Core.List.{List, [], ◌∷◌, Memᴰ}
use lib.Dec.{eqb}
use lib.ListN.{length, get_or, replicate, get_or-replicate}
use lib.Ieee.{Float}
use borrow.Author.Tests.{eq-eqb, ne_eqb, lt-ltb, le-ltb}
use Rattle.tree.specs.Refuse.{Outcome, gives, returned, left, count, no_match, any_entry_outside, any_index_outside}
use Rattle.tree.specs.Slots.{Slot, point_at, numbers_of, indices_of}
use Rattle.tree.specs.Cloud.{tree_of}
use Rattle.tree.proofs.Perm.{perm-mem}
use Rattle.tree.proofs.Slots.{slots-of, numbers-length, indices-length}
use Rattle.tree.proofs.Walk.{order-perm}
use Rattle.tree.proofs.Cloud.{tree_of-is, tree_of-length, indexed-length}
use Rattle.search.specs.declared.Nearest.{Nearest}
use Rattle.search.specs.declared.Nearest.TheVariants.{Found, Nothing}
use Rattle.search.specs.Demands.{near_first, LeastBelow}
use Rattle.std.proofs.Common.{Result, Ok, IsOk, is_ok, None}
use Rattle.tree.specs.declared.Refusal.{Refusal}
use Rattle.tree.proofs.Outcomes.{outcome-tells}
use Rattle.matching.specs.Limit.{bound_of}
use Rattle.matching.specs.Refusals.{on_matching}
use Rattle.matching.specs.Matching.{seed_of, match_of, match_all, match_in}
use Rattle.matching.specs.Promises.{Matches, done}
use Rattle.scan.specs.Program.{matches_of}
use Rattle.scan.specs.Promises.{Ready, Unseeded}
use Rattle.scan.proofs.Trees.{tree_slots}

-- ---- entries and indices inside

-- an entry that names a point of the n, or none
abbrev Inside : ℕ → ℕ → Type 0
Inside n m = (m ≡ no_match) ⊎ (m < n)

all-inside : (n : ℕ) (xs : List ℕ) → ((i : ℕ) → i < length xs → Inside n (get_or xs i 0)) → any_entry_outside n xs ≡ false
unfolding any_entry_outside
all-inside n [] h = refl
all-inside n (x ∷ xs) h =
    let rest : any_entry_outside n xs ≡ false = all-inside n xs (λ i k. h (suc i) (omega arith)) in
    ⊎_elim
    (λ (e : x ≡ no_match). simp (eq-eqb _ _ e, rest))
    (λ (l : x < n). simp (lt-ltb _ _ l, rest) (and-false (not (eqb x no_match))))
    (h 0 (omega arith))
  where
    and-false : (b : Bool) → ((b && false) || false) ≡ false
    and-false true = refl
    and-false false = refl

no-seeds : (n k : ℕ) → any_entry_outside n (replicate k no_match) ≡ false
unfolding any_entry_outside
no-seeds n zero = refl
no-seeds n (suc k) = no-seeds n k

indices_inside : (n : ℕ) (ss : List Slot) → ((s : Slot) → Memᴰ s ss → s.index < n) → any_index_outside n (indices_of ss) ≡ false
unfolding any_index_outside indices_of
indices_inside n [] h = refl
indices_inside n (s ∷ ss) h = simp (lt-ltb _ _ (h s (mathlib.Core.List.Memᴰ.head refl)), indices_inside n ss (λ t m. h t (mathlib.Core.List.Memᴰ.tail m)))

-- what a search without a seed finds is a target point
found_inside : (T : List Float) (q : _) (bound : Float) (a : Nearest) → LeastBelow q (near_first T q) bound a → Inside (count T) (match_of a)
found_inside T q bound (Found i d) f =
    let m : Memᴰ f.found (near_first T q) = subst (Memᴰ f.found) (sym f.in_order) (mathlib.Core.List.Memᴰ.append_right f.before (mathlib.Core.List.Memᴰ.head refl)) in
    let s = tree_of-is T f.found (perm-mem (order-perm q 0 (tree_of T)) m) in
    inr (subst (λ (k : ℕ). k < count T) f.index s.within)
found_inside T q bound Nothing f = inl refl

-- ---- matching

module _ (S T : List Float) (M : List ℕ) (ready : Ready S T M) (unseeded : Unseeded M) where
  points : length M ≡ length S / 3
  points = omega (arith, ready.each)

  rules : {A : Type 0} (next : Outcome A) → on_matching S T (numbers_of (tree_slots T)) (indices_of (tree_slots T)) M next ≡ next
  rules next =
      let C = numbers_of (tree_slots T) in
      let I = indices_of (tree_slots T) in
      let a : length S % 3 ≡ 0 = omega (arith, ready.each) in
      let b : length T % 3 ≡ 0 = omega (arith, ready.whole) in
      let c : length C ≡ 3 * length I = omega (arith, numbers-length (tree_slots T), indices-length (tree_slots T)) in
      let d : count S ≤ 1048576 = omega (arith, points, ready.few_sources) in
      let e : count T ≤ 1048576 = omega (arith, ready.few_targets) in
      let f : length I ≤ 1048576 = omega (arith, indices-length (tree_slots T), tree_of-length T, indexed-length T, ready.few_targets) in
      let g : length M ≤ 1048576 = omega (arith, ready.few_sources) in
      let h : count S ≡ 0 → ⊥ = λ z. omega (arith, points, ready.some_sources) in
      let i : count T ≡ 0 → ⊥ = λ z. omega (arith, ready.some_targets) in
      let j : any_entry_outside (count T) M ≡ false = rw unseeded (no-seeds (count T) (length M)) in
      let k : any_index_outside (count T) I ≡ false = indices_inside (count T) (tree_slots T) (λ s m. (tree_of-is T s m).within) in
      simp (eq-eqb _ _ a, eq-eqb _ _ b, eq-eqb _ _ c, eq-eqb _ _ points, le-ltb _ _ d, le-ltb _ _ e, le-ltb _ _ f, le-ltb _ _ g, ne_eqb _ _ h, ne_eqb _ _ i, j, k)

  gives_all : match_in S T (numbers_of (tree_slots T)) (indices_of (tree_slots T)) None M ≡ gives (matches_of S T)
  unfolding match_in matches_of
  gives_all =
      rules _
      ∙ ap (λ (l : List ℕ). gives (match_all S T (numbers_of (tree_slots T)) (indices_of (tree_slots T)) (bound_of None) l))
      (unseeded ∙ ap (λ (k : ℕ). replicate k no_match) points)

  module _ {r : Result (Unit {0}) Refusal} {M' : List ℕ} (m : Matches S T (numbers_of (tree_slots T)) (indices_of (tree_slots T)) None M r M') where
    tells : r ≡ Ok tt
    tells = outcome-tells r (Ok tt) (m.returns ∙ ap (returned done) gives_all)

    pub is_matched : IsOk r
    is_matched = ap is_ok tells

    pub entries-are : M' ≡ matches_of S T
    entries-are = m.list_left ∙ ap (left (λ l. l) M) gives_all

    entry-inside : (i : ℕ) → i < length M → Inside (count T) (get_or M' i 0)
    unfolding seed_of
    entry-inside i h =
        let q = point_at S i in
        let a = m.demand2 tells (slots-of (tree_slots T)) i h in
        let none : get_or M i 0 ≡ no_match = ap (λ (l : List ℕ). get_or l i 0) unseeded ∙ get_or-replicate (length M) i no_match 0 h in
        let no-seed : seed_of T q (get_or M i 0) ≡ Nothing = simp (eq-eqb _ _ none) in
        subst (Inside (count T)) (sym a.is_entry) (found_inside T q (bound_of None) a.answer (a.demand.unseeded no-seed))

    pub entries-inside : length M' ≡ length M → any_entry_outside (count T) M' ≡ false
    entries-inside e = all-inside (count T) M' (λ i h. entry-inside i (subst (λ (k : ℕ). i < k) e h))

  -- the slots as they are lent
  pub in_tree : {C : List Float} {I : List ℕ} {r : Result (Unit {0}) Refusal} {M' : List ℕ} → C ≡ numbers_of (tree_slots T) → I ≡ indices_of (tree_slots T)
      → Matches S T C I None M r M' → Matches S T (numbers_of (tree_slots T)) (indices_of (tree_slots T)) None M r M'
  in_tree {C} {I} {r} {M'} c i m =
      subst (λ (J : List ℕ). Matches S T (numbers_of (tree_slots T)) J None M r M') i (subst (λ (D : List Float). Matches S T D I None M r M') c m)
