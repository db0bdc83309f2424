-- `whole_root n` is the whole part of the square root of n: its square is at most n, and the square of the next number is above n.
-- Assumes nothing.
use Rattle.std.proofs.Common.{◌≡◌, ℕ, zero, suc, ◌+◌, ◌*◌, ◌/◌, ◌^◌, ◌<◌, ◌≤◌, Bool, true, false, cond, not, T, leb, sym, ap, ◌∙◌, subst, zero-le, lt_of_lt_of_le, le_of_suc-le-suc, lt_of_le_of_lt, add_assoc, mul-le-mul, le_antisymm, mul-le-mul_left, mul-lt-mul_of_pos_right, lt_of_not-le, zero-add, not-le_of_lt, add-one, arith, leb→le, pow_mono, pow-add}
use native.Mathlib.Nat.{two-pow-succ}
use lib.Dec.{nleb→lt}
use lib.Ieee.{size}
use lib.Ieee.Digits.{size-lt}
use Rattle.bits.specs.Root.{root_digits, whole_root}

-- ---- the order of two numbers is that of their squares
pub sq-le : {a b : ℕ} → a ≤ b → a * a ≤ b * b
sq-le h = mul-le-mul h h

pub sq-lt : {a b : ℕ} → a < b → a * a < b * b
sq-lt {a} {b} h = lt_of_le_of_lt (mul-le-mul_left a (below a b h)) (mul-lt-mul_of_pos_right h (above a b h))
  where
    below : (a b : ℕ) → a < b → a ≤ b
    below a b h = omega arith

    above : (a b : ℕ) → a < b → 0 < b
    above a b h = omega arith

pub sq-lt-back : {a b : ℕ} → a * a < b * b → a < b
sq-lt-back h = lt_of_not-le (λ g. not-le_of_lt h (sq-le g))

-- ---- s is the whole part of the root of n
pub record Whole (n s : ℕ) : Type 0 where
  pub within : s * s ≤ n
  pub beyond : n < suc s * suc s

digits-whole : (d s n : ℕ) → s * s ≤ n → n < (s + 2 ^ d) * (s + 2 ^ d) → Whole n (root_digits d s n)
unfolding root_digits
digits-whole zero s n a b = record { within = a; beyond = subst (λ (x : ℕ). n < x * x) (add-one s) b }
digits-whole (suc d) s n a b =
    let t = s + 2 ^ d in
    go (leb (t * t) n) (leb→le (t * t) n) (nleb→lt (t * t) n) (λ u. digits-whole d u n)
  where
    go : (x : Bool) → (T x → (s + 2 ^ d) * (s + 2 ^ d) ≤ n) → (T (not x) → n < (s + 2 ^ d) * (s + 2 ^ d))
        → ((u : ℕ) → u * u ≤ n → n < (u + 2 ^ d) * (u + 2 ^ d) → Whole n (root_digits d u n)) → Whole n (root_digits d (cond x (s + 2 ^ d) s) n)
    go true y z ih = ih (s + 2 ^ d) (y tt) (subst (λ (x : ℕ). n < x * x) (ap (λ (x : ℕ). s + x) (two-pow-succ d) ∙ sym (add_assoc s (2 ^ d) (2 ^ d))) b)
    go false y z ih = ih s a (z tt)

enough : (z : ℕ) → z ≤ suc (z / 2) + suc (z / 2)
enough z = omega arith

pub whole_root-correct : (n : ℕ) → Whole n (whole_root n)
unfolding whole_root
whole_root-correct n =
    let d = suc (size n / 2) in
    digits-whole d 0 n zero-le
    (subst (λ (x : ℕ). n < x * x) (sym (zero-add (2 ^ d))) (subst (λ (x : ℕ). n < x) (pow-add 2 d d) (lt_of_lt_of_le (size-lt n) (pow_mono (enough (size n))))))

-- ---- no other number is
pub whole_unique : {n s t : ℕ} → Whole n s → Whole n t → s ≡ t
whole_unique {n} {s} {t} a b = le_antisymm (below n s t a b) (below n t s b a)
  where
    below : (n s t : ℕ) → Whole n s → Whole n t → s ≤ t
    below n s t a b = le_of_suc-le-suc (sq-lt-back {a = s} {b = suc t} (lt_of_le_of_lt a.within b.beyond))
