-- The count of the sums is the number of matched entries, whatever the runs. Assumes nothing.
use mathlib.Core.Path.{◌≡◌, refl, ap, ◌∙◌}
use mathlib.Core.Bool.{Bool, true, false, cond}
use mathlib.Core.List.{List, [], ◌∷◌}
use Prim.Native.Nat.{ℕ, zero, suc, ◌+◌, ◌-◌, ◌≤◌}
use native.Mathlib.Nat.{not-suc-le-zero}
use native.Mathlib.Omega.{arith}
use lib.Dec.{eqb}
use lib.ListN.{length, take, drop, length-drop}
use lib.Ieee.{Float}
use Rattle.tree.specs.Slots.{Slot, point_at, slots, indices_of}
use Rattle.tree.specs.Refuse.{no_match}
use Rattle.tree.proofs.Slots.{indices-slots}
use Rattle.sums.specs.declared.CorrespondenceStats.{CorrespondenceStats}
use Rattle.sums.specs.Stats.{zero_sums, add_pair, merge_sums}
use Rattle.sums.specs.Sums.{add_entry, add_entries, cut, add_runs, sums_by, sums, run_length}

-- how many entries of a match list are matched
unfoldable pub matched : List ℕ → ℕ
matched [] = 0
matched (i ∷ is) = cond (eqb i no_match) (matched is) (suc (matched is))

of_slots : List Slot → ℕ
of_slots cs = matched (indices_of cs)

entry : (target : List Float) (s : CorrespondenceStats) (c : Slot) (m : ℕ)
    → (add_entry target s c).count + m ≡ s.count + cond (eqb c.index no_match) m (suc m)
unfolding add_entry add_pair
entry target s c m = go (eqb c.index no_match)
  where
    go : (b : Bool) → (cond b s (add_pair s c.point (point_at target c.index))).count + m ≡ s.count + cond b m (suc m)
    go true = refl
    go false = omega arith

entries : (target : List Float) (s : CorrespondenceStats) (cs : List Slot) → (add_entries target s cs).count ≡ s.count + of_slots cs
unfolding add_entries matched indices_of of_slots
entries target s [] = omega arith
entries target s (c ∷ cs) = entries target (add_entry target s c) cs ∙ entry target s c (of_slots cs)

parts : (n : ℕ) (cs : List Slot) → of_slots (take n cs) + of_slots (drop n cs) ≡ of_slots cs
unfolding matched indices_of of_slots
parts zero cs = omega arith
parts (suc n) [] = refl
parts (suc n) (c ∷ cs) = go (eqb c.index no_match) (parts n cs)
  where
    go : (b : Bool) → of_slots (take n cs) + of_slots (drop n cs) ≡ of_slots cs
        → cond b (of_slots (take n cs)) (suc (of_slots (take n cs))) + of_slots (drop n cs) ≡ cond b (of_slots cs) (suc (of_slots cs))
    go true e = e
    go false e = omega arith

runs : (n f : ℕ) (target : List Float) (s : CorrespondenceStats) (cs : List Slot) → length cs ≤ f
    → (add_runs target s (cut (suc n) f cs)).count ≡ s.count + of_slots cs
unfolding add_runs cut merge_sums matched indices_of of_slots
runs n zero target s [] h = omega arith
runs n zero target s (c ∷ cs) h = absurd (not-suc-le-zero h)
runs n (suc f) target s [] h = omega arith
runs n (suc f) target s (c ∷ cs) h =
    let run : CorrespondenceStats = add_entries target zero_sums (c ∷ take n cs) in
    let r : run.count ≡ 0 + of_slots (c ∷ take n cs) = entries target zero_sums (c ∷ take n cs) in
    let p : of_slots (c ∷ take n cs) + of_slots (drop n cs) ≡ of_slots (c ∷ cs) = parts (suc n) (c ∷ cs) in
    let g : (add_runs target (merge_sums s run) (cut (suc n) f (drop n cs))).count ≡ s.count + run.count + of_slots (drop n cs) =
    runs n f target (merge_sums s run) (drop n cs) (omega (arith, length-drop n cs)) in
    omega arith

-- "A count other than the number of matched entries fails"
pub count-matched : (source target : List Float) (matches : List ℕ) → (sums source target matches).count ≡ matched matches
unfolding sums sums_by of_slots
count-matched source target matches =
    let cs : List Slot = slots source matches in
    let e : (add_runs target zero_sums (cut run_length (length cs) cs)).count ≡ 0 + of_slots cs = runs (run_length - 1) (length cs) target zero_sums cs (omega arith) in
    let i : of_slots cs ≡ matched matches = ap matched (indices-slots source matches) in
    omega arith
