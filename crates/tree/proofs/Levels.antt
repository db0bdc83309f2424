-- Levels: the length of m in binary is 32 less its leading zeros, half of a number has a digit less, and a tree of m slots has so many levels. Assumes nothing.
use mathlib.Core.Path.{◌≡◌, refl, sym, ap, ap₂, ◌∙◌, subst}
use mathlib.Core.List.{List, [], ◌∷◌}
use Prim.Native.Nat.{ℕ, zero, suc, max, ◌+◌, ◌-◌, ◌*◌, ◌/◌, ◌^◌, ◌≤◌, ◌<◌}
use native.Mathlib.Nat.{le_of_suc-le-suc, not-suc-le-zero, div-lt_iff_lt-mul, zero-lt-suc, pow-suc, lt_of_not-le, max-eq_right}
use native.Mathlib.Omega.{arith}
use lib.ListN.{length, take, drop, length-take, length-drop}
use lib.Seq.{length-take-le}
use lib.Count.{count_leading_zeros, leading_length}
use lib.Pow.{pow_mono}
use lib.Ieee.Digits.{size-lt, size-le}
use lib.Ieee.{Float, size}
use Rattle.tree.specs.Slots.{Slot, slots}
use Rattle.tree.specs.Part.{laid, part_of, lent}
use Rattle.tree.specs.Grow.{grow}
use Rattle.tree.specs.Levels.{levels, height}
use Rattle.tree.proofs.Step.{part_of-nil, part_of-step}
use Rattle.tree.proofs.Perm.{perm-length}
use Rattle.tree.proofs.Slots.{slots_length}
use Rattle.tree.proofs.Ordered.{laid-perm}
use Rattle.tree.proofs.Shape.{part_of-laid}

-- as the code has it
pub levels-is : (m : ℕ) → m < 2 ^ 32 → 32 - count_leading_zeros 32 m ≡ levels m
unfolding levels
levels-is m h =
    let s = leading_length 32 m h in
    let k : ℕ = s.0 in
    let up : size m ≤ k = size-le m k s.2 in
    let down : k ≤ size m = le_of_suc-le-suc (lt_of_not-le (λ (g : suc (size m) ≤ k).
    let a : 2 ^ size m * 2 ≤ 2 ^ k = rw (← pow-suc) (pow_mono g) in
    let b : m < 2 ^ size m = size-lt m in
    let e : 2 ^ k ≤ 2 * m + 1 = s.3 in
    omega arith)) in
    let f : count_leading_zeros 32 m + k ≡ 32 = s.1 in
    omega arith

-- a tree of at most 1,048,576 slots has at most 21 levels
pub few-levels : (m : ℕ) → m ≤ 1048576 → levels m ≤ 21
unfolding levels
few-levels m h = size-le m 21 (omega arith)

-- a part has a level less than its group
pub levels-half : (n : ℕ) → 0 < n → suc (levels (n / 2)) ≤ levels n
unfolding levels
levels-half n pos = go (size n) refl
  where
    go : (k : ℕ) → size n ≡ k → suc (size (n / 2)) ≤ size n
    go zero e = let h : n < 2 ^ 0 = subst (λ k. n < 2 ^ k) e (size-lt n) in absurd (omega arith)
    go (suc k) e =
        let h : n < 2 ^ k * 2 = rw (← pow-suc) (subst (λ j. n < 2 ^ j) e (size-lt n)) in
        let g : size (n / 2) ≤ k = size-le (n / 2) k ((div-lt_iff_lt-mul (zero-lt-suc 1)).1 h) in
        omega arith

-- and no fewer
pub levels-step : (n : ℕ) → 0 < n → levels n ≡ suc (levels (n / 2))
unfolding levels
levels-step n pos =
    let h : n < 2 ^ suc (size (n / 2)) = rw pow-suc ((div-lt_iff_lt-mul (zero-lt-suc 1)).0 (size-lt (n / 2))) in
    omega (arith, levels-half n pos, size-le n (suc (size (n / 2))) h)

pub levels-mono : (m n : ℕ) → m ≤ n → levels m ≤ levels n
unfolding levels
levels-mono m n h = size-le m (size n) (omega (arith, size-lt n))

-- ---- a tree has as many levels

halves : (n : ℕ) → suc (max (levels (n / 2)) (levels (n - n / 2))) ≡ levels (suc n)
halves n =
    let e : n - n / 2 ≡ suc n / 2 = omega arith in
    ap suc (max-eq_right (levels-mono (n / 2) (n - n / 2) (omega arith)) ∙ ap levels e) ∙ sym (levels-step (suc n) (omega arith))

pub height-part_of : (f : ℕ) (ss : List Slot) → length ss ≤ f → height (part_of f ss) ≡ levels (length ss)
unfolding height levels size
height-part_of zero [] h = ap height (part_of-nil zero)
height-part_of zero (n ∷ ss) h = absurd (not-suc-le-zero h)
height-part_of (suc f) [] h = ap height (part_of-nil (suc f))
height-part_of (suc f) (n ∷ ss) h =
    ap height (part_of-step f n ss)
    ∙ ap₂ (λ (u v : ℕ). suc (max u v))
    (height-part_of f (take (length ss / 2) ss) (omega (arith, length-take (length ss / 2) ss)) ∙ ap levels (length-take-le (length ss / 2) ss (omega arith)))
    (height-part_of f (drop (length ss / 2) ss) (omega (arith, length-drop (length ss / 2) ss)) ∙ ap levels (length-drop (length ss / 2) ss))
    ∙ halves (length ss)

-- lent slots, whatever they hold
pub height-lent : (coords : List Float) (indices : List ℕ) → height (lent coords indices) ≡ levels (length indices)
unfolding lent
height-lent coords indices =
    height-part_of (length indices) (slots coords indices) (omega (arith, slots_length coords indices)) ∙ ap levels (slots_length coords indices)

-- "For m over 0 the number of levels is the length of m written in binary"; it is 0 for m = 0
pub height-grow : (f axis : ℕ) (l : List Slot) → length l ≤ f → height (grow f axis l) ≡ levels (length l)
height-grow f axis l h =
    ap height (sym (part_of-laid f f axis l h h))
    ∙ height-part_of f (laid (grow f axis l)) (omega (arith, perm-length (laid-perm f axis l h)))
    ∙ ap levels (perm-length (laid-perm f axis l h))
