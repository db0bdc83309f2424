-- An f64's bits to those of the f32 nearest to it, by cases of the exponent's field. Assumes nothing.
use Rattle.std.proofs.Common.{◌≡◌, ℕ, zero, suc, ◌+◌, ◌-◌, ◌*◌, ◌/◌, ◌%◌, ◌^◌, ◌<◌, ◌≤◌, Bool, true, false, cond, not, T, eqb, ltb, sym, refl, ap, ◌∙◌, subst, zero-le, le_trans, le_of_eq, lt_of_lt_of_le, le_of_suc-le-suc, lt_of_le_of_lt, lt_irrefl, mul-le-mul_right, mod-eq_of_lt, zero-lt-suc, mul_assoc, le_antisymm, mul-le-mul_left, lt_of_not-le, le_of_mul-le-mul_right, add-one, arith, lit≤, eqb→eq, ltb→lt, leb→le, nltb→le, pow_pos, pow_mono, pow-add}
use Prim.Native.Nat.{compare, Ordering}
use native.Mathlib.Nat.{div-eq_of_lt}
use lib.Dec.{is_le, compare_is_eq, nleb→lt, eqb_refl, not_T}
use lib.Pow.{pow-lt}
use lib.Ieee.{Float, nan, inf, fin, binary32, binary64, up, down, nearest, odd, units, round, of_fields, of_bits}
use lib.Ieee.Bits.{cond_no}
use lib.Ieee.Exact.{HasValue, odd_sign}
use lib.Ieee.Fits.{down_pos}
use lib.Ieee.Nearest.{closest}
use lib.Ieee.Scale.{round_same}
use Rattle.bits.specs.Convert.{narrow}
use Rattle.bits.proofs.Pattern.{round-units, units-bits, units-inf, kept-le, kept-ge, read}

-- ---- `nearest` by the order of its two numbers
abbrev Order : Ordering → ℕ → ℕ → Type 0
Order Ordering.lt a b = a < b
Order Ordering.eq a b = a ≡ b
Order Ordering.gt a b = b < a

order : (a b : ℕ) → Order (compare a b) a b
order a b = go (compare a b) (leb→le a b) (nleb→lt a b) (eqb→eq a b) (λ (e : a ≡ b). subst (λ (x : ℕ). T (eqb a x)) e (eqb_refl a))
  where
    apart : a ≤ b → (a ≡ b → ⊥) → a < b
    apart h n = omega arith

    go : (o : Ordering) → (T (is_le o) → a ≤ b) → (T (not (is_le o)) → b < a) → (T (compare_is_eq o) → a ≡ b) → (a ≡ b → T (compare_is_eq o)) → Order o a b
    go Ordering.lt h k e n = apart (h tt) n
    go Ordering.eq h k e n = e tt
    go Ordering.gt h k e n = k tt

module _ (w a b : ℕ) where
  clash : (x y : ℕ) → x < y → y ≤ x → ⊥
  clash x y h k = omega arith

  weak : (x y : ℕ) → x < y → x ≤ y
  weak x y h = omega arith

  nearest-lt : a < b → w ≡ nearest w (compare a b)
  nearest-lt h = go (compare a b) (order a b)
    where
      go : (o : Ordering) → Order o a b → w ≡ nearest w o
      go Ordering.lt k = refl
      go Ordering.eq k = absurd (clash a b h (le_of_eq (sym k)))
      go Ordering.gt k = absurd (clash a b h (weak b a k))

  nearest-gt : b < a → suc w ≡ nearest w (compare a b)
  nearest-gt h = go (compare a b) (order a b)
    where
      go : (o : Ordering) → Order o a b → suc w ≡ nearest w o
      go Ordering.lt k = absurd (clash b a h (weak a b k))
      go Ordering.eq k = absurd (clash b a h (le_of_eq k))
      go Ordering.gt k = refl

  nearest-eq : a ≡ b → w + w % 2 ≡ nearest w (compare a b)
  nearest-eq h = go (compare a b) (order a b)
    where
      go : (o : Ordering) → Order o a b → w + w % 2 ≡ nearest w o
      go Ordering.lt k = absurd (clash a b k (le_of_eq (sym h)))
      go Ordering.eq k = refl
      go Ordering.gt k = absurd (clash b a k (le_of_eq h))

pub closest-down : (m u : ℕ) → m % u * 2 < u → m / u ≡ closest m u
closest-down m u h = nearest-lt (m / u) (m % u * 2) u h

pub closest-up : (m u : ℕ) → u < m % u * 2 → m / u + 1 ≡ closest m u
closest-up m u h = add-one (m / u) ∙ nearest-gt (m / u) (m % u * 2) u h

pub closest-tie : (m u : ℕ) → u ≤ m % u * 2 → m % u * 2 ≤ u → m / u + m / u % 2 ≡ closest m u
closest-tie m u h k = nearest-eq (m / u) (m % u * 2) u (le_antisymm k h)

-- ---- the number that an f64's fields stand for, in units of 2 ^ -1074
low_value : (s : Bool) (t : ℕ) → HasValue (of_fields binary64 s 0 t) s (t * 2 ^ 0) (2 ^ 1074)
unfolding of_fields
low_value s t = odd_sign 53 s t 0 1074

mid-value : (s : Bool) (x t : ℕ) → suc x < 2047 → HasValue (of_fields binary64 s (suc x) t) s ((4503599627370496 + t) * 2 ^ x) (2 ^ 1074)
unfolding of_fields
mid-value s x t h =
    subst (λ (z : Float). HasValue z s ((4503599627370496 + t) * 2 ^ x) (2 ^ 1074))
    (sym (cond_no (eqb (suc x) 2047) (cond (eqb t 0) (inf s) nan) (odd 53 s (4503599627370496 + t) x 1074) (not_T (eqb (suc x) 2047) (λ k. apart (suc x) h (eqb→eq (suc x) 2047 k)))))
    (odd_sign 53 s (4503599627370496 + t) x 1074)
  where
    apart : (x : ℕ) → x < 2047 → x ≡ 2047 → ⊥
    apart x h e = omega arith

-- ---- the f32 of such a number
by_value : (x : Float) (s : Bool) (n c : ℕ) → 0 < c → HasValue x s n c → narrow x ≡ round binary32 s n c
unfolding narrow
by_value nan s n c C v = absurd v
by_value (inf t) s n c C v = absurd v
by_value (fin t m e) s n c C v = ap (λ (b : Bool). round binary32 b (m * up e) (down e)) v.0 ∙ round_same binary32 s (m * up e) (down e) n c (down_pos e) C v.1

scaled : (m x r k l : ℕ) → x + r ≡ k + l → m * 2 ^ x * 2 ^ r ≡ m * 2 ^ k * 2 ^ l
scaled m x r k l e =
    mul_assoc m (2 ^ x) (2 ^ r) ∙ ap (λ (z : ℕ). m * z) (sym (pow-add 2 x r) ∙ ap (λ (z : ℕ). 2 ^ z) e ∙ pow-add 2 k l) ∙ sym (mul_assoc m (2 ^ k) (2 ^ l))

in-units : (v : Float) (s : Bool) (m x k t : ℕ) → HasValue v s (m * 2 ^ x) (2 ^ 1074) → x + (149 + t) ≡ k + 1074 → m < 2 ^ (24 + t) → (0 < k → 2 ^ (23 + t) ≤ m)
    → narrow v ≡ units binary32 s (closest m (2 ^ t)) k
in-units v s m x k t h e hi lo =
    by_value v s (m * 2 ^ x) (2 ^ 1074) (pow_pos 1074) h
    ∙ round_same binary32 s (m * 2 ^ x) (2 ^ 1074) (m * 2 ^ k) (2 ^ (149 + t)) (pow_pos 1074) (pow_pos (149 + t)) (scaled m x (149 + t) k 1074 e)
    ∙ round-units binary32 s m k t hi lo

-- ---- as bits: the one number of units whose carry reaches infinity is 2 ^ 24 * 2 ^ 253
abbrev signed : Bool → ℕ → ℕ
signed s r = cond s 2147483648 0 + r

infinity : (s : Bool) → inf s ≡ of_bits binary32 (signed s 2139095040)
unfolding of_bits
infinity true = refl
infinity false = refl

units-signed : (s : Bool) (q k : ℕ) → q ≤ 16777216 → (0 < k → 8388608 ≤ q) → k ≤ 253 → units binary32 s q k ≡ of_bits binary32 (signed s (k * 8388608 + q))
units-signed s q k Q K B = go (ltb (q * 2 ^ k) (2 ^ 277)) (ltb→lt (q * 2 ^ k) (2 ^ 277)) (nltb→le (q * 2 ^ k) (2 ^ 277))
  where
    end : k ≤ 253 → 253 ≤ k → q ≤ 16777216 → 16777216 ≤ q → k * 8388608 + q ≡ 2139095040
    end a b c d = omega arith

    go : (b : Bool) → (T b → q * 2 ^ k < 2 ^ 277) → (T (not b) → 2 ^ 277 ≤ q * 2 ^ k) → units binary32 s q k ≡ of_bits binary32 (signed s (k * 8388608 + q))
    go true h l = units-bits binary32 s q k Q K (h tt)
    go false h l =
        let wide : 2 ^ 277 ≤ 2 ^ (24 + k) = le_trans (l tt) (le_trans (mul-le-mul_right (2 ^ k) Q) (le_of_eq (sym (pow-add 2 24 k)))) in
        let full : 253 ≤ k = le-add-back 24 253 k (pow_le_back 277 (24 + k) wide) in
        let most : 2 ^ 24 * 2 ^ 253 ≤ q * 2 ^ 253 = le_trans (l tt) (mul-le-mul_left q (pow_mono B)) in
        units-inf binary32 s q k (l tt)
        ∙ infinity s
        ∙ ap (λ (r : ℕ). of_bits binary32 (signed s r)) (sym (end B full Q (le_of_mul-le-mul_right most (pow_pos 253))))
      where
        pow_le_back : (i j : ℕ) → 2 ^ i ≤ 2 ^ j → i ≤ j
        pow_le_back i j h = le_of_suc-le-suc (lt_of_not-le (λ (g : suc j ≤ i). lt_irrefl (2 ^ j) (lt_of_lt_of_le (pow-lt g) h)))

        le-add-back : (a b k : ℕ) → a + b ≤ a + k → b ≤ k
        le-add-back a b k h = omega arith

-- ---- the four cases of the exponent's field
module _ (s : Bool) (t : ℕ) (T52 : t < 4503599627370496) where
  digits_lt : 4503599627370496 + t < 2 ^ 53
  digits_lt = omega arith

  digits-ge : 2 ^ 52 ≤ 4503599627370496 + t
  digits-ge = omega arith

  normal-units : (x : ℕ) → 897 ≤ x → x < 2047 → narrow (of_fields binary64 s x t) ≡ units binary32 s (closest (4503599627370496 + t) (2 ^ 29)) (x - 897)
  normal-units zero h k = absurd (no h)
    where
      no : 897 ≤ 0 → ⊥
      no h = omega arith
  normal-units (suc x) h k =
      in-units (of_fields binary64 s (suc x) t) s (4503599627370496 + t) x (suc x - 897) 29 (mid-value s x t k) (omega arith) digits_lt (λ g. digits-ge)

  normal : (x : ℕ) → 897 ≤ x → x < 1151 → of_bits binary32 (signed s ((x - 897) * 8388608 + closest (4503599627370496 + t) 536870912)) ≡ narrow (of_fields binary64 s x t)
  normal x h k =
      sym (normal-units x h (omega arith)
      ∙ units-signed s (closest (4503599627370496 + t) (2 ^ 29)) (x - 897) (kept-le binary32 s (4503599627370496 + t) (x - 897) 29 digits_lt (λ g. digits-ge)) (kept-ge binary32 s (4503599627370496 + t) (x - 897) 29 digits_lt (λ g. digits-ge)) (omega arith))

  large : (x : ℕ) → 1151 ≤ x → x < 2047 → of_bits binary32 (signed s 2139095040) ≡ narrow (of_fields binary64 s x t)
  large x h k =
      sym (normal-units x (omega arith) k
      ∙ units-inf binary32 s (closest (4503599627370496 + t) (2 ^ 29)) (x - 897)
      (le_trans (mul-le-mul_left (2 ^ 23) (pow_mono {i = 254} {j = x - 897} (omega arith))) (mul-le-mul_right (2 ^ (x - 897)) (kept-ge binary32 s (4503599627370496 + t) (x - 897) 29 digits_lt (λ g. digits-ge) (omega arith))))
      ∙ infinity s)

  small_units : (x : ℕ) → 0 < x → x < 897 → narrow (of_fields binary64 s x t) ≡ units binary32 s (closest (4503599627370496 + t) (2 ^ (926 - x))) 0
  small_units zero h k = absurd (lt_irrefl 0 h)
  small_units (suc x) h k =
      in-units (of_fields binary64 s (suc x) t) s (4503599627370496 + t) x 0 (926 - suc x) (mid-value s x t (omega arith)) (omega arith) (wide x k) (λ g. absurd (lt_irrefl 0 g))
    where
      wide : (x : ℕ) → suc x < 897 → 4503599627370496 + t < 2 ^ (24 + (926 - suc x))
      wide x k = lt_of_lt_of_le digits_lt (pow_mono {i = 53} {j = 24 + (926 - suc x)} (omega arith))

  small : (x : ℕ) → 872 < x → x < 897 → of_bits binary32 (signed s (closest (4503599627370496 + t) (2 ^ (926 - x)))) ≡ narrow (of_fields binary64 s x t)
  small x h k =
      let q = closest (4503599627370496 + t) (2 ^ (926 - x)) in
      let wide : 4503599627370496 + t < 2 ^ (24 + (926 - x)) = lt_of_lt_of_le digits_lt (pow_mono {i = 53} {j = 24 + (926 - x)} (omega arith)) in
      let z : 0 * 8388608 + q ≡ q = omega arith in
      sym (small_units x (omega arith) k
      ∙ units-signed s q 0 (kept-le binary32 s (4503599627370496 + t) 0 (926 - x) wide (λ g. absurd (lt_irrefl 0 g))) (λ g. absurd (lt_irrefl 0 g)) zero-le
      ∙ ap (λ (r : ℕ). of_bits binary32 (signed s r)) z)

  half-unit : (m r : ℕ) → m < 2 ^ 53 → 54 ≤ r → closest m (2 ^ r) ≡ 0
  half-unit m r h k =
      let l : 2 ^ 54 ≤ 2 ^ r = pow_mono k in
      let u : m < 2 ^ r = lt_of_lt_of_le (below m h) l in
      let w : m % 2 ^ r * 2 < 2 ^ r = lt_of_le_of_lt (le_of_eq (ap (λ (z : ℕ). z * 2) (mod-eq_of_lt u))) (lt_of_lt_of_le (twice m h) l) in
      sym (closest-down m (2 ^ r) w) ∙ div-eq_of_lt u
    where
      below : (m : ℕ) → m < 9007199254740992 → m < 18014398509481984
      below m h = omega arith

      twice : (m : ℕ) → m < 9007199254740992 → m * 2 < 18014398509481984
      twice m h = omega arith

  zero-units : units binary32 s 0 0 ≡ of_bits binary32 (signed s 0)
  zero-units = units-signed s 0 0 zero-le (λ g. absurd (lt_irrefl 0 g)) zero-le

  tiny : (x : ℕ) → x ≤ 872 → of_bits binary32 (signed s 0) ≡ narrow (of_fields binary64 s x t)
  tiny zero h =
      sym (in-units (of_fields binary64 s 0 t) s t 0 0 925 (low_value s t) refl (lt_of_lt_of_le (below t T52) (pow_mono {i = 53} {j = 949} (lit≤ tt))) (λ g. absurd (lt_irrefl 0 g))
      ∙ ap (λ (q : ℕ). units binary32 s q 0) (half-unit t 925 (below t T52) (lit≤ tt))
      ∙ zero-units)
    where
      below : (t : ℕ) → t < 4503599627370496 → t < 9007199254740992
      below t h = omega arith
  tiny (suc x) h =
      sym (small_units (suc x) (zero-lt-suc x) (omega arith)
      ∙ ap (λ (q : ℕ). units binary32 s q 0) (half-unit (4503599627370496 + t) (926 - suc x) digits_lt (omega arith))
      ∙ zero-units)

-- ---- the same of the bits
abbrev wide_signed : Bool → ℕ → ℕ
wide_signed s a = cond s 9223372036854775808 0 + a

module _ (a : ℕ) (in-range : a ≤ 9218868437227405312) (s : Bool) where
  digits_in : a % 4503599627370496 < 4503599627370496
  digits_in = omega arith

  of-fields : (z : Float) → z ≡ narrow (of_fields binary64 s (a / 4503599627370496) (a % 4503599627370496)) → z ≡ narrow (of_bits binary64 (wide_signed s a))
  of-fields z e = e ∙ sym (ap narrow (read binary64 s a (omega arith)))

  infinite-in : 2047 ≤ a / 4503599627370496 → of_bits binary32 (signed s 2139095040) ≡ narrow (of_fields binary64 s (a / 4503599627370496) (a % 4503599627370496))
  unfolding narrow of_fields
  infinite-in h =
      let x : a / 4503599627370496 ≡ 2047 = omega arith in
      let t : a % 4503599627370496 ≡ 0 = omega arith in
      sym (infinity s) ∙ sym (ap (λ (z : ℕ). narrow (of_fields binary64 s z (a % 4503599627370496))) x ∙ ap (λ (z : ℕ). narrow (of_fields binary64 s 2047 z)) t)

  pub narrow-large : 1151 ≤ a / 4503599627370496 → of_bits binary32 (signed s 2139095040) ≡ narrow (of_bits binary64 (wide_signed s a))
  narrow-large h = of-fields (of_bits binary32 (signed s 2139095040)) (go (ltb (a / 4503599627370496) 2047) (ltb→lt (a / 4503599627370496) 2047) (nltb→le (a / 4503599627370496) 2047))
    where
      go : (b : Bool) → (T b → a / 4503599627370496 < 2047) → (T (not b) → 2047 ≤ a / 4503599627370496)
          → of_bits binary32 (signed s 2139095040) ≡ narrow (of_fields binary64 s (a / 4503599627370496) (a % 4503599627370496))
      go true l k = large s (a % 4503599627370496) digits_in (a / 4503599627370496) h (l tt)
      go false l k = infinite-in (k tt)

  pub narrow-normal : (q : ℕ) → q ≡ closest (4503599627370496 + a % 4503599627370496) 536870912 → 897 ≤ a / 4503599627370496 → a / 4503599627370496 < 1151
      → of_bits binary32 (signed s ((a / 4503599627370496 - 897) * 8388608 + q)) ≡ narrow (of_bits binary64 (wide_signed s a))
  narrow-normal q e h k =
      of-fields (of_bits binary32 (signed s ((a / 4503599627370496 - 897) * 8388608 + q)))
      (ap (λ (z : ℕ). of_bits binary32 (signed s ((a / 4503599627370496 - 897) * 8388608 + z))) e ∙ normal s (a % 4503599627370496) digits_in (a / 4503599627370496) h k)

  pub narrow-small : (q : ℕ) → q ≡ closest (4503599627370496 + a % 4503599627370496) (2 ^ (926 - a / 4503599627370496)) → 872 < a / 4503599627370496 → a / 4503599627370496 < 897
      → of_bits binary32 (signed s q) ≡ narrow (of_bits binary64 (wide_signed s a))
  narrow-small q e h k =
      of-fields (of_bits binary32 (signed s q)) (ap (λ (z : ℕ). of_bits binary32 (signed s z)) e ∙ small s (a % 4503599627370496) digits_in (a / 4503599627370496) h k)

  pub narrow-tiny : a / 4503599627370496 ≤ 872 → of_bits binary32 (signed s 0) ≡ narrow (of_bits binary64 (wide_signed s a))
  narrow-tiny h = of-fields (of_bits binary32 (signed s 0)) (tiny s (a % 4503599627370496) digits_in (a / 4503599627370496) h)

-- the digits kept are at most 2 ^ 24
pub kept-fits : (t r q : ℕ) → t < 4503599627370496 → 29 ≤ r → q ≡ closest (4503599627370496 + t) (2 ^ r) → q ≤ 16777216
kept-fits t r q h k e =
    le_trans (le_of_eq e)
    (kept-le binary32 false (4503599627370496 + t) 0 r (lt_of_lt_of_le (digits_lt false t h) (pow_mono {i = 53} {j = 24 + r} (omega arith))) (λ g. absurd (lt_irrefl 0 g)))
