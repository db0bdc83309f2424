-- The pair list and the sums of a small match list refuse nothing; what the report writes, and how long it is.
use Prim.Native.Nat.{ℕ, suc, ◌/◌, ◌%◌, ◌≤◌}
use native.Mathlib.Omega.{arith}
use mathlib.Core.Path.{◌≡◌, refl, sym, ap, ap₂, ◌∙◌, subst}
use mathlib.Core.Bool.{Bool, true, false, cond}
use mathlib.Core.List.{List, [], ◌∷◌}
use lib.Dec.{eqb}
use lib.ListN.{length, take, length-map}
use lib.Seq.{take_at}
use lib.Ieee.{Float}
use borrow.Author.Tests.{eq-eqb, le-ltb}
use Rattle.tree.specs.Refuse.{gives, returned, left, count, no_match, any_entry_outside}
use Rattle.std.proofs.Common.{Result, Ok, IsOk, is_ok}
use Rattle.tree.specs.Refusal.{outcome_of}
use Rattle.tree.specs.declared.Refusal.{Refusal}
use Rattle.tree.proofs.Outcomes.{outcome-tells}
use Rattle.matching.specs.Pairs.{Pair, pair, pairs_from, pairs, sources_of, targets_of, written, pairs_in}
use Rattle.matching.specs.Promises.{ListsPairs}
use Rattle.sums.specs.declared.CorrespondenceStats.{CorrespondenceStats}
use Rattle.sums.specs.Entries.{sums_in}
use Rattle.sums.specs.Sums.{sums}
use Rattle.sums.specs.Stats.{mse}
use Rattle.scan.specs.Input.{most_read}
use Rattle.scan.specs.Program.{report_lines, report}
use Rattle.text.specs.Puts.{Writes}
use Rattle.text.specs.declared.Writer.{Writer}
use Rattle.scan.specs.Promises.{side, Ready}

-- ---- the pair list

from-length : (i : ℕ) (M : List ℕ) → length (pairs_from i M) ≤ length M
unfolding pairs_from
from-length i [] = omega arith
from-length i (m ∷ M) = go (eqb m no_match) (from-length (suc i) M)
  where
    go : (b : Bool) → length (pairs_from (suc i) M) ≤ length M → length (cond b (pairs_from (suc i) M) (pair i m ∷ pairs_from (suc i) M)) ≤ suc (length M)
    go true h = omega arith
    go false h = omega arith

pub pairs-length : (M : List ℕ) → length (pairs M) ≤ length M
unfolding pairs
pairs-length M = from-length 0 M

pub side-of : (ps : List Pair) → side (sources_of ps) (targets_of ps) ≡ ps
unfolding side
side-of [] = refl
side-of (p ∷ ps) = ap (λ (l : List Pair). p ∷ l) (side-of ps)

module _ (M : List ℕ) (few : length M ≤ most_read) where
  listed : (A B : List ℕ) → length A ≡ 1024 → length B ≡ 1024 → pairs_in M A B ≡ gives (written (pairs M) A B)
  unfolding pairs_in
  listed A B room room' =
      let a : length M ≤ 1048576 = omega arith in
      let b : length (pairs M) ≤ length A = omega (arith, pairs-length M) in
      let c : length (pairs M) ≤ length B = omega (arith, pairs-length M) in
      simp (le-ltb _ _ a, le-ltb _ _ b, le-ltb _ _ c)

  module _ {A B : List ℕ} {r : Result ℕ Refusal} {A' B' : List ℕ} (l : ListsPairs M A B r A' B') (room : length A ≡ 1024) (room' : length B ≡ 1024) where
    tells : r ≡ Ok (length (pairs M))
    tells = outcome-tells r (Ok _) (l.returns ∙ ap (returned (λ w. w.number)) (listed A B room room'))

    pub is_listed : IsOk r
    is_listed = ap is_ok tells

    module _ {n : ℕ} (p : r ≡ Ok n) where
      pair-number : n ≡ length (pairs M)
      pair-number = let g = sym p ∙ tells in cc

      pub pairs-few : n ≤ most_read
      pairs-few = omega (arith, pair-number, pairs-length M)

      sources-front : take n A' ≡ sources_of (pairs M)
      sources-front =
          ap (take n) (l.sources_left ∙ ap (left (λ w. w.sources) A) (listed A B room room'))
          ∙ take_at (sources_of (pairs M)) _ n (length-map (pairs M) (λ p. p.source) ∙ sym pair-number)

      targets-front : take n B' ≡ targets_of (pairs M)
      targets-front =
          ap (take n) (l.targets_left ∙ ap (left (λ w. w.targets) B) (listed A B room room'))
          ∙ take_at (targets_of (pairs M)) _ n (length-map (pairs M) (λ p. p.target) ∙ sym pair-number)

      pub sources-length : n ≡ length (take n A')
      sources-length = sym (ap length sources-front ∙ length-map (pairs M) (λ p. p.source) ∙ sym pair-number)

      pub targets-length : n ≡ length (take n B')
      targets-length = sym (ap length targets-front ∙ length-map (pairs M) (λ p. p.target) ∙ sym pair-number)

      pub pairs-front : side (take n A') (take n B') ≡ pairs M
      pairs-front = ap₂ side sources-front targets-front ∙ side-of (pairs M)

-- ---- the sums

module _ (S T : List Float) (M : List ℕ) (ready : Ready S T M) (inside : any_entry_outside (count T) M ≡ false) where
  summed : sums_in S T M ≡ gives (sums S T M)
  unfolding sums_in
  summed =
      let p : length M ≡ length S / 3 = omega (arith, ready.each) in
      let a : length S % 3 ≡ 0 = omega (arith, ready.each) in
      let b : length T % 3 ≡ 0 = omega (arith, ready.whole) in
      let d : count S ≤ 1048576 = omega (arith, p, ready.few_sources) in
      let e : count T ≤ 1048576 = omega (arith, ready.few_targets) in
      let g : length M ≤ 1048576 = omega (arith, ready.few_sources) in
      simp (eq-eqb _ _ a, eq-eqb _ _ b, eq-eqb _ _ p, le-ltb _ _ d, le-ltb _ _ e, le-ltb _ _ g, inside)

  module _ (r : Result CorrespondenceStats Refusal) (e : outcome_of r ≡ sums_in S T M) where
    adds : r ≡ Ok (sums S T M)
    adds = outcome-tells r (Ok _) (e ∙ summed)

    pub is_summed : IsOk r
    is_summed = ap is_ok adds

    pub sums-are : {s : CorrespondenceStats} → r ≡ Ok s → s ≡ sums S T M
    sums-are p = let g = sym p ∙ adds in cc

-- the lines of the pair list and of the MSE are the report
pub report-is : (S T : List Float) (M : List ℕ) {ps : List Pair} {x : Float} {w w' : Writer} → ps ≡ pairs M → x ≡ mse (sums S T M) → Writes (report_lines ps x) w w' → Writes (report S T M) w w'
unfolding report
report-is S T M {ps} {x} {w} {w'} e f p =
    subst (λ (y : Float). Writes (report_lines (pairs M) y) w w') f (subst (λ (qs : List Pair). Writes (report_lines qs x) w w') e p)
