-- The sums, turn by turn: one match entry more of a run, and one run more. Assumes nothing.
use mathlib.Core.Path.{◌≡◌, refl, sym, ap, ◌∙◌}
use mathlib.Core.Bool.{Bool, true, false, cond}
use mathlib.Core.List.{List, [], ◌∷◌}
use Prim.Native.Nat.{ℕ, zero, suc, ◌+◌, ◌-◌, ◌≤◌, ◌<◌, min}
use native.Mathlib.Nat.{not-suc-le-zero, zero-min, min-zero, suc-min-suc, min-le_right}
use native.Mathlib.Numerals.{add-one}
use native.Mathlib.Omega.{arith}
use lib.Dec.{eqb}
use lib.ListN.{length, get_or, take, drop, length-drop, length-take}
use lib.Seq.{drop-cons, drop-drop, drop-length}
use lib.Ieee.{Float}
use Rattle.tree.specs.Slots.{Slot, point_at, none}
use Rattle.tree.specs.Refuse.{no_match}
use Rattle.sums.specs.declared.CorrespondenceStats.{CorrespondenceStats}
use Rattle.sums.specs.Stats.{zero_sums, add_pair, merge_sums}
use Rattle.sums.specs.Sums.{add_entry, add_entries, cut, add_runs, sums_by}

-- ---- the count

pub entry-count : (target : List Float) (s : CorrespondenceStats) (c : Slot) → (add_entry target s c).count ≤ s.count + 1
unfolding add_entry add_pair
entry-count target s c = go (eqb c.index no_match)
  where
    go : (b : Bool) → (cond b s (add_pair s c.point (point_at target c.index))).count ≤ s.count + 1
    go true = omega arith
    go false = omega arith

pub entries-count : (target : List Float) (s : CorrespondenceStats) (cs : List Slot) → (add_entries target s cs).count ≤ s.count + length cs
unfolding add_entries
entries-count target s [] = omega arith
entries-count target s (c ∷ cs) = omega (arith, entries-count target (add_entry target s c) cs, entry-count target s c)

pub run-count : (target : List Float) (run : CorrespondenceStats) (len : ℕ) (cs : List Slot) → run ≡ add_entries target zero_sums (take len cs) → run.count ≤ len
run-count target run len cs e =
    let n : run.count ≡ (add_entries target zero_sums (take len cs)).count = ap (λ (u : CorrespondenceStats). u.count) e in
    omega (arith, entries-count target zero_sums (take len cs), length-take len cs)

-- ---- a run: len entries of the list cs from at on, of which those before i are in s

part-cons : (cs : List Slot) (i e : ℕ) → i < e → e ≤ length cs → take (e - i) (drop i cs) ≡ get_or cs i none ∷ take (e - (i + 1)) (drop (i + 1) cs)
part-cons cs i e h k =
    let q : e - i ≡ suc (e - (i + 1)) = omega arith in
    let w : i < length cs = omega arith in
    rw (q, add-one, drop-cons cs i none)

pub record Running (target : List Float) (cs : List Slot) (at len : ℕ) (s : CorrespondenceStats) (i : ℕ) : Type 0 where
  pub within : i ≤ at + len
  pub few : s.count ≤ i
  pub rest : add_entries target s (take (at + len - i) (drop i cs)) ≡ add_entries target zero_sums (take len (drop at cs))

module _ {target : List Float} {cs : List Slot} {at len : ℕ} where
  pub running-goes : {s : CorrespondenceStats} {i : ℕ} → Running target cs at len s i → at + len ≤ length cs → i < at + len
      → (c : Slot) → get_or cs i none ≡ c → (t : CorrespondenceStats) → t ≡ add_entry target s c → Running target cs at len t (i + 1)
  unfolding add_entries
  running-goes {s} {i} g k h c y t q =
      let e : ℕ = at + len in
      let n : t.count ≡ (add_entry target s c).count = ap (λ (u : CorrespondenceStats). u.count) q in
      record {
        within = omega arith;
        few = omega (arith, entry-count target s c, g.few);
        rest =
            ap (λ (u : CorrespondenceStats). add_entries target u (take (e - (i + 1)) (drop (i + 1) cs))) (q ∙ ap (add_entry target s) (sym y))
            ∙ sym (ap (add_entries target s) (part-cons cs i e h k))
            ∙ g.rest;
      }

  pub running-ends : {s : CorrespondenceStats} {i : ℕ} → Running target cs at len s i → at + len ≤ i → s ≡ add_entries target zero_sums (take len (drop at cs))
  unfolding add_entries
  running-ends {s} {i} g h =
      let z : at + len - i ≡ 0 = omega arith in
      ap (λ (n : ℕ). add_entries target s (take n (drop i cs))) (sym z) ∙ g.rest

-- ---- runs: the list from at on, of which what is before at is in the total

module _ {A : Type 0} where
  -- enough is enough
  cut-more : (n f g : ℕ) (xs : List A) → length xs ≤ f → length xs ≤ g → cut (suc n) f xs ≡ cut (suc n) g xs
  unfolding cut
  cut-more n zero zero xs h k = refl
  cut-more n zero (suc g) [] h k = refl
  cut-more n zero (suc g) (x ∷ xs) h k = absurd (not-suc-le-zero h)
  cut-more n (suc f) zero [] h k = refl
  cut-more n (suc f) zero (x ∷ xs) h k = absurd (not-suc-le-zero k)
  cut-more n (suc f) (suc g) [] h k = refl
  cut-more n (suc f) (suc g) (x ∷ xs) h k =
      ap (λ (r : List (List A)). (x ∷ take n xs) ∷ r) (cut-more n f g (drop n xs) (omega (arith, length-drop n xs)) (omega (arith, length-drop n xs)))

  cut-one : (n : ℕ) (xs : List A) → 0 < length xs
      → cut (suc n) (length xs) xs ≡ take (suc n) xs ∷ cut (suc n) (length (drop (suc n) xs)) (drop (suc n) xs)
  unfolding cut
  cut-one n [] h = absurd (not-suc-le-zero h)
  cut-one n (x ∷ xs) h =
      ap (λ (r : List (List A)). (x ∷ take n xs) ∷ r) (cut-more n (length xs) (length (drop n xs)) (drop n xs) (omega (arith, length-drop n xs)) (omega arith))

  take_min : (n : ℕ) (xs : List A) → take (min n (length xs)) xs ≡ take n xs
  take_min zero xs = rw zero-min
  take_min (suc n) [] = rw min-zero
  take_min (suc n) (x ∷ xs) = rw suc-min-suc (ap (λ (r : List A). x ∷ r) (take_min n xs))

  drop_min : (n : ℕ) (xs : List A) → drop (min n (length xs)) xs ≡ drop n xs
  drop_min zero xs = rw zero-min
  drop_min (suc n) [] = rw min-zero
  drop_min (suc n) (x ∷ xs) = rw suc-min-suc (drop_min n xs)

pub record Adding (n : ℕ) (target : List Float) (cs : List Slot) (total : CorrespondenceStats) (at : ℕ) : Type 0 where
  pub within : at ≤ length cs
  pub few : total.count ≤ at
  pub rest : add_runs target total (cut n (length (drop at cs)) (drop at cs)) ≡ sums_by n target cs

module _ {n : ℕ} {target : List Float} {cs : List Slot} where
  -- a run of len entries from at on
  pub adding-goes : {total : CorrespondenceStats} {at : ℕ} → Adding (suc n) target cs total at → at < length cs
      → (len : ℕ) → len ≡ min (suc n) (length cs - at) → (run : CorrespondenceStats) → run ≡ add_entries target zero_sums (take len (drop at cs))
      → (more : CorrespondenceStats) → more ≡ merge_sums total run → Adding (suc n) target cs more (at + len)
  unfolding add_runs merge_sums
  adding-goes {total} {at} g h len l run q more m =
      let xs : List Slot = drop at cs in
      let d : length xs ≡ length cs - at = length-drop at cs in
      let w : len ≡ min (suc n) (length xs) = l ∙ ap (min (suc n)) (sym d) in
      let r : run ≡ add_entries target zero_sums (take (suc n) xs) = q ∙ ap (λ (k : ℕ). add_entries target zero_sums (take k xs)) w ∙ ap (add_entries target zero_sums) (take_min (suc n) xs) in
      let b : drop (at + len) cs ≡ drop (suc n) xs = sym (drop-drop len at cs) ∙ ap (λ (k : ℕ). drop k xs) w ∙ drop_min (suc n) xs in
      let s : more.count ≡ total.count + run.count = ap (λ (u : CorrespondenceStats). u.count) m in
      record {
        within = omega (arith, min-le_right (suc n) (length xs), g.within);
        few = omega (arith, run-count target run len xs q, g.few);
        rest =
            ap (λ (u : CorrespondenceStats). add_runs target u (cut (suc n) (length (drop (at + len) cs)) (drop (at + len) cs))) (m ∙ ap (merge_sums total) r)
            ∙ ap (λ (ys : List Slot). add_runs target (merge_sums total (add_entries target zero_sums (take (suc n) xs))) (cut (suc n) (length ys) ys)) b
            ∙ sym (ap (add_runs target total) (cut-one n xs (omega arith)))
            ∙ g.rest;
      }

  pub adding-ends : {total : CorrespondenceStats} {at : ℕ} → Adding (suc n) target cs total at → length cs ≤ at → total ≡ sums_by (suc n) target cs
  unfolding add_runs cut
  adding-ends {total} {at} g h =
      let w : at ≡ length cs = omega (arith, g.within) in
      let e : drop at cs ≡ [] = ap (λ (k : ℕ). drop k cs) w ∙ drop-length cs in
      ap (λ (ys : List Slot). add_runs target total (cut (suc n) (length ys) ys)) (sym e) ∙ g.rest
