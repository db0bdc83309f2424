-- A root that was guessed: no step of the guess overflows. Assumes nothing.
use Rattle.std.proofs.Common.{ℕ, zero, suc, ◌*◌, ◌^◌, ◌<◌, ◌≤◌, not-suc-le-zero, zero-lt-suc, mul-le-mul, arith}

pub product : (a b : ℕ) → a < 2 ^ 32 → b < 2 ^ 32 → a * b ≤ 4294967295 * 4294967295
product a b x y = mul-le-mul (below a x) (below b y)
  where
    below : (c : ℕ) → c < 2 ^ 32 → c ≤ 4294967295
    below c h = omega arith

pub positive : (n a : ℕ) → n < a * a → 1 ≤ a
positive n zero h = absurd (not-suc-le-zero h)
positive n (suc a) h = zero-lt-suc a
