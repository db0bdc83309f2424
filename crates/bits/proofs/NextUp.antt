-- The bits of the f32 that are no NaN, as `next_up` counts them: up to infinity's, and down from those of -0. Assumes nothing.
use Rattle.std.proofs.Common.{◌≡◌, ℕ, zero, suc, ◌+◌, ◌-◌, ◌*◌, ◌/◌, ◌%◌, ◌^◌, ◌<◌, ◌≤◌, Bool, true, false, not, T, ℤ, pos, sym, ap, ◌∙◌, subst, zero-mul, arith}
use native.Mathlib.Nat.{zero-div}
use lib.Ieee.{Float, fin, binary32, hid, low, up, down, size, fits, is_nan, to_bits, of_bits, nan_bits}
use lib.Ieee.Bits.{of_bits-to_bits, to_bits-lt}
use lib.Ieee.Scale.{finite}
use Rattle.bits.proofs.Tests.{no_nan, number-bits}

-- ---- the bits of a finite value
grouped : (t a b : ℕ) → t + a + b ≡ t + (0 + a + b)
grouped t a b = omega arith

pub minus-bits : (m : ℕ) (e : ℤ) → to_bits binary32 (fin true m e) ≡ 2147483648 + to_bits binary32 (fin false m e)
unfolding to_bits
minus-bits m e =
    let n = m * up e * 2 ^ low binary32 / down e in
    grouped 2147483648 ((size n - 24) * 8388608) (n / 2 ^ (size n - 24))

pub zero_bits : (e : ℤ) → to_bits binary32 (fin false 0 e) ≡ 0
unfolding to_bits
zero_bits e =
    ap (λ (n : ℕ). let k = size n - 24 in 0 + k * hid binary32 + n / 2 ^ k)
    (ap (λ (u : ℕ). u * 2 ^ low binary32 / down e) (zero-mul (up e)) ∙ zero-div (down e))

pub turn : (s t : Bool) (m : ℕ) (e : ℤ) → T (fits binary32 (fin s m e)) → T (fits binary32 (fin t m e))
unfolding fits
turn s t zero e h = h
turn s t (suc m) e h = h

no-infinity : (x : Float) → T (finite x) → T (fits binary32 x) → to_bits binary32 x ≡ 2139095040 → ⊥
unfolding of_bits
no-infinity x t h e = subst (λ (z : Float). T (finite z)) (sym (of_bits-to_bits binary32 x h) ∙ ap (λ (b : ℕ). of_bits binary32 b) e) t

pub plus-bits : (m : ℕ) (e : ℤ) → T (fits binary32 (fin false m e)) → to_bits binary32 (fin false m e) < 2139095040
unfolding is_nan
plus-bits m e h =
    bound (to_bits binary32 (fin false m e)) (subst (λ (b : ℕ). b < 4294967296) (minus-bits m e) (to_bits-lt binary32 (fin true m e) (turn false true m e h)))
    (number-bits binary32 (fin false m e) h tt)
    (no-infinity (fin false m e) tt h)
  where
    bound : (b : ℕ) → 2147483648 + b < 4294967296 → b % 2147483648 ≤ 2139095040 → (b ≡ 2139095040 → ⊥) → b < 2139095040
    bound b h k n = omega arith

-- a negative value that is no zero has a pattern above that of -0
pub minus-over : (m : ℕ) (e : ℤ) → T (fits binary32 (fin true (suc m) e)) → 2147483648 < to_bits binary32 (fin true (suc m) e)
unfolding of_bits
minus-over m e f = over (to_bits binary32 (fin true (suc m) e)) (to_bits binary32 (fin false (suc m) e)) (minus-bits (suc m) e) no_zero
  where
    no_zero : to_bits binary32 (fin true (suc m) e) ≡ 2147483648 → ⊥
    no_zero h =
        let p : fin true (suc m) e ≡ fin true 0 (pos 0) = sym (of_bits-to_bits binary32 (fin true (suc m) e) f) ∙ ap (λ (b : ℕ). of_bits binary32 b) h in
        let q : suc m ≡ 0 = cc in
        omega arith

    over : (b a : ℕ) → b ≡ 2147483648 + a → (b ≡ 2147483648 → ⊥) → 2147483648 < b
    over b a e h = omega arith

-- ---- the bits counted by one are no NaN's
pub rising-number : (b : ℕ) → b < 2139095040 → T (not (nan_bits binary32 (b + 1)))
rising-number b h = no_nan binary32 (b + 1) (omega arith)

pub falling-number : (x : Float) → T (fits binary32 x) → T (not (is_nan x)) → 2139095040 ≤ to_bits binary32 x → (to_bits binary32 x ≡ 2139095040 → ⊥) → (to_bits binary32 x ≡ 2147483648 → ⊥)
    → T (not (nan_bits binary32 (to_bits binary32 x - 1)))
falling-number x f n h i z = no_nan binary32 (to_bits binary32 x - 1) (under (to_bits binary32 x) (number-bits binary32 x f n) (to_bits-lt binary32 x f) h i z)
  where
    under : (b : ℕ) → b % 2147483648 ≤ 2139095040 → b < 4294967296 → 2139095040 ≤ b → (b ≡ 2139095040 → ⊥) → (b ≡ 2147483648 → ⊥) → (b - 1) % 2147483648 ≤ 2139095040
    under b p q h i z = omega arith
