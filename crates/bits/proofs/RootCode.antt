-- What the code's steps make of a number m * 2 ^ a: the digits of its root, rounded, are the bits of `root`. Assumes nothing.
use Rattle.std.proofs.Common.{◌≡◌, ℕ, suc, ◌+◌, ◌-◌, ◌*◌, ◌/◌, ◌%◌, ◌^◌, ◌<◌, ◌≤◌, Bool, true, false, cond, not, T, ltb, sym, refl, ap, ◌∙◌, subst, lt_of_lt_of_le, lt_of_le_of_lt, mul-le-mul, lt_of_not-le, not-le_of_lt, arith, lit<, ltb→lt, nltb→le, pow_mono, shl_exact}
use lib.Pow.{pow-lt}
use lib.Ieee.{Float, Format, prec, emax, low, to_bits}
use lib.Ieee.Exact.{HasValue}
use Rattle.bits.specs.Root.{root}
use Rattle.bits.proofs.RootDigits.{excess, shift}
use Rattle.bits.proofs.RootSteps.{all_digits}
use Rattle.bits.proofs.RootCorrect.{scaled-bits}

-- the place of a number's highest digit lies among its digits
pub within : (m p j : ℕ) → 2 ^ j ≤ m → m < 2 ^ p → j < p
within m p j lo hi = lt_of_not-le (λ (g : p ≤ j). not-le_of_lt (lt_of_lt_of_le hi (pow_mono g)) lo)

-- What is known when the digits are found: of m, whose highest digit stands at the place j, of the format's p digits, and of the root t, its remainder r
-- and what is ahead, b.
pub record Found (p m a j t r b : ℕ) : Type 0 where
  pub few : p ≤ 53
  pub held : m < 2 ^ p
  pub room : 2 * p ≤ a
  pub bound : a ≤ 4096
  pub lo : 2 ^ j ≤ m
  pub hi : m < 2 ^ suc j
  pub digits : (t * t + r) * 2 ^ 64 + b ≡ m * 2 ^ (62 - j + excess p a j % 2) % 2 ^ 64 * (2 ^ p * 2 ^ p)
  pub small : r ≤ 2 * t
  pub fitting : t < 2 ^ p
  pub ahead : b < 2 ^ 64

module _ (p m a j t r b : ℕ) (k : Found p m a j t r b) where
  inside : j < p
  inside = within m p j k.lo k.held

  exponent : excess p a j / 2 ≤ 2048
  exponent = go inside k.room k.bound
    where
      go : j < p → 2 * p ≤ a → a ≤ 4096 → excess p a j / 2 ≤ 2048
      go x y z = omega arith

  no_wrap : excess p a j / 2 * 2 ^ (p - 1) % 2 ^ 64 ≡ excess p a j / 2 * 2 ^ (p - 1)
  no_wrap = shl_exact 12 (p - 1) 64 (lt_of_le_of_lt exponent (pow-lt {i = 11} {j = 12} (lit< tt))) (go k.few)
    where
      go : p ≤ 53 → 12 + (p - 1) ≤ 64
      go x = omega arith

  pub sum_fits : excess p a j / 2 * 2 ^ (p - 1) % 2 ^ 64 + t + 1 < 2 ^ 64
  sum_fits =
      subst (λ (x : ℕ). x + t + 1 < 2 ^ 64) (sym no_wrap)
      (go (excess p a j / 2 * 2 ^ (p - 1)) (mul-le-mul exponent (pow_mono (pred k.few))) (lt_of_lt_of_le k.fitting (pow_mono k.few)))
    where
      pred : p ≤ 53 → p - 1 ≤ 52
      pred x = omega arith

      go : (x : ℕ) → x ≤ 2048 * 2 ^ 52 → t < 2 ^ 53 → x + t + 1 < 2 ^ 64
      go x y z = omega arith

  whole : t * t + r ≡ m * 2 ^ shift p a j
  whole =
      all_digits m (62 - j + excess p a j % 2) (shift p a j) p (t * t + r) b (places p j (excess p a j) inside k.few)
      (k.digits ∙ ap (λ (x : ℕ). x * (2 ^ p * 2 ^ p)) (shl_exact (suc j) (62 - j + excess p a j % 2) 64 k.hi (highest p j (excess p a j) inside k.few))) k.ahead
    where
      places : (p j e : ℕ) → j < p → p ≤ 53 → 62 - j + e % 2 + (p + p) ≡ 2 * p - 2 - j + e % 2 + 64
      places p j e x y = omega arith

      highest : (p j e : ℕ) → j < p → p ≤ 53 → suc j + (62 - j + e % 2) ≤ 64
      highest p j e x y = omega arith

at-prec : (f : Format) (x : Float) (m a j t r b : ℕ) → a ≤ 2 * low f + emax f → HasValue x false (m * 2 ^ a) (2 ^ (low f + low f)) → Found (prec f) m a j t r b
    → excess (prec f) a j / 2 * 2 ^ (prec f - 1) % 2 ^ 64 + cond (ltb t r) (suc t) t ≡ to_bits f (root f x)
at-prec f x m a j t r b n v k =
    ap (λ (y : ℕ). y + cond (ltb t r) (suc t) t) (no_wrap (prec f) m a j t r b k)
    ∙ sym (scaled-bits f x m a j t r v k.lo k.hi (inside (prec f) m a j t r b k) k.room n (whole (prec f) m a j t r b k) k.small)

module _ (f : Format) (x : Float) (p m a j t r b : ℕ) (e : prec f ≡ p) (n : a ≤ 2 * low f + emax f) (v : HasValue x false (m * 2 ^ a) (2 ^ (low f + low f))) (k : Found p m a j t r b) where
  assembled : excess p a j / 2 * 2 ^ (p - 1) % 2 ^ 64 + cond (ltb t r) (suc t) t ≡ to_bits f (root f x)
  assembled = subst (λ (y : ℕ). Found y m a j t r b → excess y a j / 2 * 2 ^ (y - 1) % 2 ^ 64 + cond (ltb t r) (suc t) t ≡ to_bits f (root f x)) e (at-prec f x m a j t r b n v) k

  -- the code's two answers
  pub rounds-up : t < r → excess p a j / 2 * 2 ^ (p - 1) % 2 ^ 64 + t + 1 ≡ to_bits f (root f x)
  rounds-up h = next (excess p a j / 2 * 2 ^ (p - 1) % 2 ^ 64) (go (ltb t r) (nltb→le t r)) ∙ assembled
    where
      go : (c : Bool) → (T (not c) → r ≤ t) → suc t ≡ cond c (suc t) t
      go true z = refl
      go false z = absurd (not-le_of_lt h (z tt))

      next : (y : ℕ) {q : ℕ} → suc t ≡ q → y + t + 1 ≡ y + q
      next y d = omega arith

  pub rounds-down : r ≤ t → excess p a j / 2 * 2 ^ (p - 1) % 2 ^ 64 + t ≡ to_bits f (root f x)
  rounds-down h = ap (λ (q : ℕ). excess p a j / 2 * 2 ^ (p - 1) % 2 ^ 64 + q) (go (ltb t r) (ltb→lt t r)) ∙ assembled
    where
      go : (c : Bool) → (T c → t < r) → t ≡ cond c (suc t) t
      go true z = absurd (not-le_of_lt (z tt) h)
      go false z = refl
