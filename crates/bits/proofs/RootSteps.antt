-- A root's digits, one by one: each turn makes the number four times as great and the root a digit longer. Assumes nothing.
use Rattle.std.proofs.Common.{◌≡◌, ℕ, ◌+◌, ◌*◌, ◌/◌, ◌^◌, ◌<◌, ◌≤◌, sym, ap, ◌∙◌, mul_assoc, mul-div_cancel, mul_left_comm, add-one, arith, pow_pos, pow-add}
use native.Mathlib.Nat.{mul-mul-mul_comm, pow-succ'}
use lib.Arith.{digits_div}

-- ---- a turn of the loop
doubled : (i : ℕ) → 2 ^ (i + 1) ≡ 2 * 2 ^ i
doubled i = ap (λ (x : ℕ). 2 ^ x) (add-one i) ∙ pow-succ' 2 i

pub turn : (n m a i : ℕ) → m ≡ a * (2 ^ i * 2 ^ i) → n ≡ 4 * m → n ≡ a * (2 ^ (i + 1) * 2 ^ (i + 1))
turn n m a i e h =
    h
    ∙ ap (λ (x : ℕ). 4 * x) e
    ∙ mul_left_comm 4 a (2 ^ i * 2 ^ i)
    ∙ ap (λ (x : ℕ). a * x) (sym (ap (λ (x : ℕ). x * x) (doubled i) ∙ mul-mul-mul_comm 2 (2 ^ i) 2 (2 ^ i)))

pub more-digits : (t u i : ℕ) → t < 2 ^ i → u ≤ 2 * t + 1 → u < 2 ^ (i + 1)
more-digits t u i h k = let e : 2 ^ (i + 1) ≡ 2 * 2 ^ i = doubled i in omega arith

-- ---- all digits: the number m * 2 ^ s goes in at the highest places, so the digits are those of m * 2 ^ c
pub all_digits : (m s c p n b : ℕ) → s + (p + p) ≡ c + 64 → n * 2 ^ 64 + b ≡ m * 2 ^ s * (2 ^ p * 2 ^ p) → b < 2 ^ 64 → n ≡ m * 2 ^ c
all_digits m s c p n b e h small =
    let k : m * 2 ^ s * (2 ^ p * 2 ^ p) ≡ m * 2 ^ c * 2 ^ 64 =
    ap (λ (x : ℕ). m * 2 ^ s * x) (sym (pow-add 2 p p))
    ∙ mul_assoc m (2 ^ s) (2 ^ (p + p))
    ∙ ap (λ (x : ℕ). m * x) (sym (pow-add 2 s (p + p)) ∙ ap (λ (x : ℕ). 2 ^ x) e ∙ pow-add 2 c 64)
    ∙ sym (mul_assoc m (2 ^ c) (2 ^ 64)) in
    sym (digits_div n {m = 2 ^ 64} {r = b} small) ∙ ap (λ (x : ℕ). x / 2 ^ 64) (h ∙ k) ∙ mul-div_cancel (m * 2 ^ c) (pow_pos 64)
