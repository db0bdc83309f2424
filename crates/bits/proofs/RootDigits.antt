-- From a whole root t of a scaled significand n and its remainder, t * t + r = n, to the nearest number of p digits; and the scaling
-- that makes n. A tie cannot occur: the square of a half-way point is odd where 4 * n is even. Assumes nothing.
use Rattle.std.proofs.Common.{◌≡◌, ℕ, suc, ◌+◌, ◌-◌, ◌*◌, ◌/◌, ◌%◌, ◌^◌, ◌<◌, ◌≤◌, Bool, true, false, cond, not, T, ltb, sym, ap, ◌∙◌, subst, le_trans, le_of_eq, lt_of_lt_of_le, le_of_suc-le-suc, lt_of_le_of_lt, mul-le-mul_right, mul_assoc, suc-mul, add-mul, mul-le-mul_left, mul-lt-mul_of_pos_right, mul-pos, mul-suc, mul-add, arith, ltb→lt, nltb→le, pow_pos, pow_mono, pow-add, shl_lt}
use native.Mathlib.Nat.{mul-mul-mul_comm}
use lib.Arith.{lt_of_le-ne}
use Rattle.bits.proofs.WholeRoot.{sq-lt, sq-lt-back}
use Rattle.bits.proofs.RootNearest.{Nearest}

-- ---- squares
sq-twice : (t : ℕ) → 2 * t * (2 * t) ≡ 4 * (t * t)
sq-twice t = mul-mul-mul_comm 2 t 2 t

pub sq-odd : (t : ℕ) → (2 * t + 1) * (2 * t + 1) ≡ 4 * (t * t) + 4 * t + 1
sq-odd t =
    let a : (2 * t + 1) * (2 * t + 1) ≡ 2 * t * (2 * t + 1) + 1 * (2 * t + 1) = add-mul (2 * t) 1 (2 * t + 1) in
    let b : 2 * t * (2 * t + 1) ≡ 2 * t * (2 * t) + 2 * t * 1 = mul-add (2 * t) (2 * t) 1 in
    let c : 2 * t * (2 * t) ≡ 4 * (t * t) = sq-twice t in
    omega arith

pub sq-suc : (t : ℕ) → suc t * suc t ≡ t * t + t + t + 1
sq-suc t =
    let a : suc t * suc t ≡ t * suc t + suc t = suc-mul t (suc t) in
    let b : t * suc t ≡ t * t + t = mul-suc t t in
    omega arith

-- ---- the number of p digits nearest to the root of n, n having 2 * p digits, or one less: t, or the next where the remainder is above t
record Rounded (p n q : ℕ) : Type 0 where
  digits : 2 ^ (p - 1) ≤ q
  no_more : q < 2 ^ p
  above : (2 * q - 1) * (2 * q - 1) < 4 * n
  below : 4 * n < (2 * q + 1) * (2 * q + 1)

module _ (p n t r : ℕ) (is : t * t + r ≡ n) (small : r ≤ 2 * t) (lo : 2 ^ (p - 1) * 2 ^ (p - 1) ≤ n) (hi : n + 2 ^ p ≤ 2 ^ p * 2 ^ p) where
  t-ge : 2 ^ (p - 1) ≤ t
  t-ge = le_of_suc-le-suc (sq-lt-back {a = 2 ^ (p - 1)} {b = suc t} (lt_of_le_of_lt lo (under (sq-suc t))))
    where
      under : suc t * suc t ≡ t * t + t + t + 1 → n < suc t * suc t
      under e = omega arith

  t-lt : t < 2 ^ p
  t-lt = sq-lt-back {a = t} {b = 2 ^ p} (under (2 ^ p) (2 ^ p * 2 ^ p) (pow_pos p) hi)
    where
      under : (d e : ℕ) → 0 < d → n + d ≤ e → t * t < e
      under d e h k = omega arith

  t-pos : 0 < t
  t-pos = lt_of_lt_of_le (pow_pos (p - 1)) t-ge

  stays : r ≤ t → Rounded p n t
  stays h = record {
    digits = t-ge;
    no_more = t-lt;
    above = under (sq-lt {a = 2 * t - 1} {b = 2 * t} (pred t t-pos)) (sq-twice t);
    below = over (sq-odd t);
  }
    where
      pred : (t : ℕ) → 0 < t → 2 * t - 1 < 2 * t
      pred t h = omega arith

      under : (2 * t - 1) * (2 * t - 1) < 2 * t * (2 * t) → 2 * t * (2 * t) ≡ 4 * (t * t) → (2 * t - 1) * (2 * t - 1) < 4 * n
      under a b = omega arith

      over : (2 * t + 1) * (2 * t + 1) ≡ 4 * (t * t) + 4 * t + 1 → 4 * n < (2 * t + 1) * (2 * t + 1)
      over a = omega arith

  moves : t < r → Rounded p n (suc t)
  moves h = record {
    digits = more t-ge;
    no_more = less (2 ^ p) (2 ^ p * 2 ^ p) t-lt hi (λ (e : suc t ≡ 2 ^ p). ap (λ (x : ℕ). x * x) (sym e) ∙ sq-suc t);
    above = subst (λ (x : ℕ). x * x < 4 * n) (sym (odd t)) (under (sq-odd t));
    below = over (sq-odd (suc t)) (sq-suc t);
  }
    where
      more : {b : ℕ} → b ≤ t → b ≤ suc t
      more h = omega arith

      odd : (t : ℕ) → 2 * suc t - 1 ≡ 2 * t + 1
      odd t = omega arith

      full : (d e : ℕ) → n + d ≤ e → suc t ≡ d → e ≡ t * t + t + t + 1 → ⊥
      full d e a b c = omega arith

      less : (d e : ℕ) → t < d → n + d ≤ e → (suc t ≡ d → e ≡ t * t + t + t + 1) → suc t < d
      less d e a b c = lt_of_le-ne a (λ (x : suc t ≡ d). full d e b x (c x))

      under : (2 * t + 1) * (2 * t + 1) ≡ 4 * (t * t) + 4 * t + 1 → (2 * t + 1) * (2 * t + 1) < 4 * n
      under a = omega arith

      over : (2 * suc t + 1) * (2 * suc t + 1) ≡ 4 * (suc t * suc t) + 4 * suc t + 1 → suc t * suc t ≡ t * t + t + t + 1 → 4 * n < (2 * suc t + 1) * (2 * suc t + 1)
      over a b = omega arith

  chosen : Rounded p n (cond (ltb t r) (suc t) t)
  chosen = go (ltb t r) (ltb→lt t r) (nltb→le t r)
    where
      go : (b : Bool) → (T b → t < r) → (T (not b) → r ≤ t) → Rounded p n (cond b (suc t) t)
      go true y z = moves (y tt)
      go false y z = stays (z tt)

  -- 2 ^ k is the unit: n is the number whose root is asked, in squares of it
  pub nearest-of-remainder : (k : ℕ) → Nearest p (n * (2 ^ k * 2 ^ k)) (cond (ltb t r) (suc t) t) k
  nearest-of-remainder k =
      let q = cond (ltb t r) (suc t) t in
      let h = 2 ^ k in
      let s = h * h in
      let s-pos : 0 < s = mul-pos (pow_pos k) (pow_pos k) in
      record {
        digits = chosen.digits;
        no_more = chosen.no_more;
        above = subst (λ (x : ℕ). x < 4 * (n * s)) (sym (mul-mul-mul_comm (2 * q - 1) h (2 * q - 1) h)) (subst (λ (x : ℕ). (2 * q - 1) * (2 * q - 1) * s < x) (mul_assoc 4 n s) (mul-lt-mul_of_pos_right chosen.above s-pos));
        below = subst (λ (x : ℕ). 4 * (n * s) < x) (sym (mul-mul-mul_comm (2 * q + 1) h (2 * q + 1) h)) (subst (λ (x : ℕ). x < (2 * q + 1) * (2 * q + 1) * s) (mul_assoc 4 n s) (mul-lt-mul_of_pos_right chosen.below s-pos));
        reached = subst (λ (x : ℕ). x ≤ n * s) (sym (mul-mul-mul_comm (2 ^ (p - 1)) h (2 ^ (p - 1)) h)) (mul-le-mul_right s lo);
      }

-- ---- m * 2 ^ a, with suc j digits in m, is a number of 2 * p digits, or one less, times 2 ^ k squared
-- how far m * 2 ^ a reaches over 2 * p - 1 digits: half of it is k, and what is odd of it goes to the number
abbrev pub excess : ℕ → ℕ → ℕ → ℕ
excess p a j = a + 2 + j - 2 * p

-- the number is m * 2 ^ shift
abbrev pub shift : ℕ → ℕ → ℕ → ℕ
shift p a j = 2 * p - 2 - j + excess p a j % 2

module _ (p m a j : ℕ) (lo : 2 ^ j ≤ m) (hi : m < 2 ^ suc j) (fit : suc j ≤ p) (room : 2 * p ≤ a) where
  pub scaled-is : m * 2 ^ a ≡ m * 2 ^ shift p a j * (2 ^ (excess p a j / 2) * 2 ^ (excess p a j / 2))
  scaled-is =
      let c = shift p a j in
      let k = excess p a j / 2 in
      ap (λ (x : ℕ). m * 2 ^ x) (parts p a j fit room)
      ∙ ap (λ (x : ℕ). m * x) (pow-add 2 c (k + k) ∙ ap (λ (x : ℕ). 2 ^ c * x) (pow-add 2 k k))
      ∙ sym (mul_assoc m (2 ^ c) (2 ^ k * 2 ^ k))
    where
      parts : (p a j : ℕ) → suc j ≤ p → 2 * p ≤ a → a ≡ shift p a j + (excess p a j / 2 + excess p a j / 2)
      parts p a j h k = omega arith

  pub scaled-ge : 2 ^ (p - 1) * 2 ^ (p - 1) ≤ m * 2 ^ shift p a j
  scaled-ge =
      let c = shift p a j in
      le_trans (le_of_eq (sym (pow-add 2 (p - 1) (p - 1))))
      (le_trans (pow_mono (digits p j (excess p a j) fit)) (le_trans (le_of_eq (pow-add 2 j c)) (mul-le-mul_right (2 ^ c) lo)))
    where
      digits : (p j w : ℕ) → suc j ≤ p → p - 1 + (p - 1) ≤ j + (2 * p - 2 - j + w % 2)
      digits p j w h = omega arith

  pub scaled-le : m * 2 ^ shift p a j + 2 ^ p ≤ 2 ^ p * 2 ^ p
  scaled-le =
      let c = shift p a j in
      let v = p - suc j in
      let b : m * 2 ^ v < 2 ^ p = subst (λ (x : ℕ). m * 2 ^ v < 2 ^ x) (whole p j fit) (shl_lt (suc j) v hi) in
      let e : m * 2 ^ c ≤ m * 2 ^ v * 2 ^ p =
      le_trans (mul-le-mul_left m (pow_mono (places p j (excess p a j) fit))) (le_of_eq (ap (λ (x : ℕ). m * x) (pow-add 2 v p) ∙ sym (mul_assoc m (2 ^ v) (2 ^ p)))) in
      last (m * 2 ^ c) (m * 2 ^ v * 2 ^ p) (2 ^ p) (2 ^ p * 2 ^ p) (suc (m * 2 ^ v) * 2 ^ p) e (suc-mul (m * 2 ^ v) (2 ^ p)) (mul-le-mul_right (2 ^ p) b)
    where
      whole : (p j : ℕ) → suc j ≤ p → suc j + (p - suc j) ≡ p
      whole p j h = omega arith

      places : (p j w : ℕ) → suc j ≤ p → 2 * p - 2 - j + w % 2 ≤ p - suc j + p
      places p j w h = omega arith

      last : (x y d e z : ℕ) → x ≤ y → z ≡ y + d → z ≤ e → x + d ≤ e
      last x y d e z a b c = omega arith

  -- from the whole root and the remainder of that number
  pub nearest-of-scaled : (t r : ℕ) → t * t + r ≡ m * 2 ^ shift p a j → r ≤ 2 * t → Nearest p (m * 2 ^ a) (cond (ltb t r) (suc t) t) (excess p a j / 2)
  nearest-of-scaled t r is small =
      subst (λ (x : ℕ). Nearest p x (cond (ltb t r) (suc t) t) (excess p a j / 2)) (sym scaled-is)
      (nearest-of-remainder p (m * 2 ^ shift p a j) t r is small scaled-ge scaled-le (excess p a j / 2))
