-- The loop that writes the match list: after i turns the first i entries are written, and the rest are the seeds.
use Prim.Native.Nat.{ℕ, zero, suc, ◌+◌, ◌≤◌, ◌<◌}
use native.Mathlib.Nat.{add-zero, zero-add, add-suc, suc-add}
use native.Mathlib.Numerals.{add-one}
use native.Mathlib.Omega.{arith}
use mathlib.Core.Path.{◌≡◌, refl, sym, ap, ◌∙◌, subst}
use mathlib.Core.List.{List, [], ◌∷◌, ◌++◌, append-nil}
use lib.ListN.{length, take, drop, set, get_or}
use lib.Seq.{take-suc, take_all, length-take-le, drop-length}
use Rattle.tree.specs.Refuse.{overwrite}
use Rattle.matching.specs.Entries.{entries_from}
use Rattle.tree.proofs.Overwrite.{over-one, over-seam}

module _ (entry : ℕ → ℕ → ℕ) where
  entries-length : (j : ℕ) (ss : List ℕ) → length (entries_from entry j ss) ≡ length ss
  unfolding entries_from
  entries-length j [] = refl
  entries-length j (s ∷ ss) = ap suc (entries-length (suc j) ss)

  entries-one : (j : ℕ) (ss : List ℕ) (s : ℕ) → entries_from entry j (ss ++ (s ∷ [])) ≡ entries_from entry j ss ++ (entry (j + length ss) s ∷ [])
  unfolding entries_from
  entries-one j [] s = ap (λ (k : ℕ). entry k s ∷ []) (sym (add-zero j))
  entries-one j (x ∷ ss) s = ap (λ (l : List ℕ). entry j x ∷ l) (entries-one (suc j) ss s ∙ ap (λ (k : ℕ). entries_from entry (suc j) ss ++ (entry k s ∷ [])) (suc-add j (length ss) ∙ sym (add-suc j (length ss))))

  -- entry i is made of seed i
  entries_at : (j : ℕ) (ss : List ℕ) (i : ℕ) → i < length ss → get_or (entries_from entry j ss) i 0 ≡ entry (j + i) (get_or ss i 0)
  unfolding entries_from
  entries_at j [] i h = absurd (omega arith)
  entries_at j (s ∷ ss) zero h = ap (λ (k : ℕ). entry k s) (sym (add-zero j))
  entries_at j (s ∷ ss) (suc i) h = entries_at (suc j) ss i (omega arith) ∙ ap (λ (k : ℕ). entry k (get_or ss i 0)) (suc-add j i ∙ sym (add-suc j i))

  pub entry_at : (ss : List ℕ) (i : ℕ) → i < length ss → get_or (entries_from entry 0 ss) i 0 ≡ entry i (get_or ss i 0)
  entry_at ss i h = entries_at 0 ss i h ∙ ap (λ (k : ℕ). entry k (get_or ss i 0)) (zero-add i)

  -- after i turns
  abbrev pub after : List ℕ → ℕ → List ℕ
  after ss i = overwrite (entries_from entry 0 (take i ss)) ss

  written-length : (ss : List ℕ) (i : ℕ) → i ≤ length ss → length (entries_from entry 0 (take i ss)) ≡ i
  written-length ss i h = entries-length 0 (take i ss) ∙ length-take-le i ss h

  -- the seed still stands where the next entry goes
  pub after-seed : (ss : List ℕ) (i : ℕ) → i < length ss → get_or (after ss i) i 0 ≡ get_or ss i 0
  after-seed ss i h =
      subst (λ (k : ℕ). get_or (after ss i) k 0 ≡ get_or ss k 0) (written-length ss i (omega arith)) (over-seam (entries_from entry 0 (take i ss)) ss 0)

  grown : (ss : List ℕ) (i : ℕ) → i < length ss → entries_from entry 0 (take (i + 1) ss) ≡ entries_from entry 0 (take i ss) ++ (entry i (get_or ss i 0) ∷ [])
  grown ss i h =
      ap (entries_from entry 0) (ap (λ (k : ℕ). take k ss) (add-one i) ∙ take-suc ss i 0 h) ∙ entries-one 0 (take i ss) (get_or ss i 0)
      ∙ ap (λ (k : ℕ). entries_from entry 0 (take i ss) ++ (entry k (get_or ss i 0) ∷ [])) (zero-add (length (take i ss)) ∙ length-take-le i ss (omega arith))

  pub after_one : (ss : List ℕ) (i : ℕ) → i < length ss → set (after ss i) i (entry i (get_or ss i 0)) ≡ after ss (i + 1)
  after_one ss i h =
      let A = entries_from entry 0 (take i ss) in
      let l : length A ≡ i = written-length ss i (omega arith) in
      let x = entry i (get_or ss i 0) in
      ap (λ (k : ℕ). set (overwrite A ss) k x) (sym l) ∙ sym (over-one A ss x (subst (λ (k : ℕ). k < length ss) (sym l) h)) ∙ ap (λ (B : List ℕ). overwrite B ss) (sym (grown ss i h))

  pub after-all : (ss : List ℕ) (i : ℕ) → length ss ≤ i → after ss i ≡ entries_from entry 0 ss
  after-all ss i h =
      ap (λ (l : List ℕ). overwrite (entries_from entry 0 l) ss) (take_all i ss h)
      ∙ ap (λ (k : ℕ). entries_from entry 0 ss ++ drop k ss) (entries-length 0 ss) ∙ ap (λ (l : List ℕ). entries_from entry 0 ss ++ l) (drop-length ss) ∙ append-nil (entries_from entry 0 ss)
