-- Around the digits: what a bit pattern is worth in squares of the format's smallest value, which values have which patterns,
-- and what `root` gives where no digits are computed. Over both formats. Assumes nothing.
use Rattle.std.proofs.Common.{◌≡◌, ℕ, zero, suc, ◌+◌, ◌-◌, ◌*◌, ◌/◌, ◌%◌, ◌^◌, ◌<◌, ◌≤◌, Bool, true, false, cond, not, T, eqb, ltb, leb, ◌⊎◌, ℤ, sym, refl, ap, ◌∙◌, subst, inl, inr, true≢false, le_trans, le_of_eq, lt_of_lt_of_le, le-add_right, lt_irrefl, mul-le-mul_right, mod-eq_of_lt, zero-lt-suc, mul_comm, div-lt_iff_lt-mul, eq-zero-or-pos, add_comm, mul-le-mul_left, mul-pos, one-mul, le-div_iff_mul-le, zero-add, zero-mul, mul-one, arith, lit≤, le→leb, eqb→eq, ltb→lt, lt→ltb, leb→le, nltb→le, pow_pos}
use mathlib.Core.Bool.{false≢true}
use native.Mathlib.Nat.{div-eq_of_lt, le-suc}
use lib.Dec.{nleb→lt, not_T}
use lib.Arith.{lt→nleb, lt_of_le-ne}
use lib.Ieee.{Float, nan, inf, fin, Format, binary32, binary64, prec, low, up, down, odd, lt, fits, is_nan, hid, ones, top, of_fields, of_bits, nan_bits, to_bits}
use lib.Ieee.Fits.{up_pos}
use lib.Ieee.Exact.{HasValue, odd_sign}
use lib.Ieee.Bits.{is_true, is_false, cond_no, of_bits-to_bits, to_bits-lt, nan_bits_is, nan_bits_above}
use Rattle.bits.specs.Constants.{nought}
use Rattle.bits.specs.Root.{root}
use Rattle.bits.proofs.RootCorrect.{root-rooted, root-fits, in-squares}

-- ---- a pattern below the sign's bit
fields-of : (f : Format) (b : ℕ) → b < top f → of_bits f b ≡ of_fields f false (b / hid f) (b % hid f)
unfolding of_bits
fields-of f b h =
    ap (λ (s : Bool). of_fields f s (b % top f / hid f) (b % hid f)) (is_false (leb (top f) b) (lt→nleb (top f) b h))
    ∙ ap (λ (x : ℕ). of_fields f false (x / hid f) (b % hid f)) (mod-eq_of_lt h)

low_field : (f : Format) (t : ℕ) → of_fields f false 0 t ≡ odd (prec f) false t 0 (low f)
unfolding of_fields
low_field f t = refl

mid-field : (f : Format) (x t : ℕ) → suc x < ones f → of_fields f false (suc x) t ≡ odd (prec f) false (hid f + t) x (low f)
unfolding of_fields
mid-field f x t h = cond_no (eqb (suc x) (ones f)) (cond (eqb t 0) (inf false) nan) (odd (prec f) false (hid f + t) x (low f)) (not_T (eqb (suc x) (ones f)) (λ e. lt_irrefl (ones f) (subst (λ (y : ℕ). y < ones f) (eqb→eq (suc x) (ones f) e) h)))

-- a subnormal value: the pattern itself counts units
pub low_value : (f : Format) (b : ℕ) → b < hid f → HasValue (of_bits f b) false (b * 2 ^ low f) (2 ^ (low f + low f))
low_value f b h =
    let e : of_bits f b ≡ odd (prec f) false b 0 (low f) =
    fields-of f b (lt_of_lt_of_le h (le_trans (le_of_eq (sym (mul-one (hid f)))) (mul-le-mul_left (hid f) (zero-lt-suc (ones f)))))
    ∙ ap (λ (x : ℕ). of_fields f false x (b % hid f)) (div-eq_of_lt h)
    ∙ ap (λ (x : ℕ). of_fields f false 0 x) (mod-eq_of_lt h)
    ∙ low_field f b in
    subst (λ (i : ℕ). HasValue (of_bits f b) false (b * 2 ^ i) (2 ^ (low f + low f))) (zero-add (low f))
    (in-squares (of_bits f b) b 0 (low f) (subst (λ (y : Float). HasValue y false (b * 2 ^ 0) (2 ^ low f)) (sym e) (odd_sign (prec f) false b 0 (low f))))

-- a normal value: the digits below the leading one, and the exponent's field
mid_at : (f : Format) (b k : ℕ) → b / hid f ≡ suc k → b < ones f * hid f → HasValue (of_bits f b) false ((b % hid f + hid f) * 2 ^ (k + low f)) (2 ^ (low f + low f))
mid_at f b k s h =
    let x_lt : suc k < ones f = subst (λ (y : ℕ). y < ones f) s ((div-lt_iff_lt-mul (pow_pos (prec f - 1))).1 h) in
    let under : b < top f = lt_of_lt_of_le h (le_trans (mul-le-mul_right (hid f) (le-suc (ones f))) (le_of_eq (mul_comm (suc (ones f)) (hid f)))) in
    let e : of_bits f b ≡ odd (prec f) false (b % hid f + hid f) k (low f) =
    fields-of f b under
    ∙ ap (λ (x : ℕ). of_fields f false x (b % hid f)) s
    ∙ mid-field f k (b % hid f) x_lt
    ∙ ap (λ (x : ℕ). odd (prec f) false x k (low f)) (add_comm (hid f) (b % hid f)) in
    in-squares (of_bits f b) (b % hid f + hid f) k (low f) (subst (λ (y : Float). HasValue y false ((b % hid f + hid f) * 2 ^ k) (2 ^ low f)) (sym e) (odd_sign (prec f) false (b % hid f + hid f) k (low f)))

pub mid-value : (f : Format) (b : ℕ) → hid f ≤ b → b < ones f * hid f → HasValue (of_bits f b) false ((b % hid f + hid f) * 2 ^ (b / hid f + (low f - 1))) (2 ^ (low f + low f))
mid-value f b g h =
    let x = b / hid f in
    let one : 1 ≤ x = (le-div_iff_mul-le (pow_pos (prec f - 1))).1 (le_trans (le_of_eq (one-mul (hid f))) g) in
    subst (λ (i : ℕ). HasValue (of_bits f b) false ((b % hid f + hid f) * 2 ^ i) (2 ^ (low f + low f))) (shifted x (low f) one (low-pos f)) (mid_at f b (x - 1) (before x one) h)
  where
    before : (x : ℕ) → 1 ≤ x → x ≡ suc (x - 1)
    before x h = omega arith

    shifted : (x l : ℕ) → 1 ≤ x → 1 ≤ l → x - 1 + l ≡ x + (l - 1)
    shifted x l h k = omega arith

    low-pos : (f : Format) → 1 ≤ low f
    low-pos binary32 = lit≤ tt
    low-pos binary64 = lit≤ tt

-- ---- which values are above zero, and their patterns; the code writes zero by its bits
zero_bits : (f : Format) → of_bits f 0 ≡ nought
unfolding of_bits
zero_bits binary32 = refl
zero_bits binary64 = refl

infinity-bits : (f : Format) → of_bits f (ones f * hid f) ≡ inf false
unfolding of_bits
infinity-bits binary32 = refl
infinity-bits binary64 = refl

over-nought : (f : Format) (x : Float) {b : Bool} → lt (of_bits f 0) x ≡ b → lt nought x ≡ b
over-nought f x h = ap (λ (z : Float). lt z x) (sym (zero_bits f)) ∙ h

under-nought : (f : Format) (x : Float) {b : Bool} → lt x (of_bits f 0) ≡ b → lt x nought ≡ b
under-nought f x h = ap (λ (z : Float). lt x z) (sym (zero_bits f)) ∙ h

above_no_nan : (x : Float) → lt nought x ≡ true → T (not (is_nan x))
unfolding lt is_nan
above_no_nan nan h = absurd (false≢true h)
above_no_nan (inf s) h = tt
above_no_nan (fin s m e) h = tt

pub no_nan : (f : Format) (x : Float) → lt (of_bits f 0) x ≡ true → T (not (is_nan x))
no_nan f x h = above_no_nan x (over-nought f x h)

-- with the sign's bit nothing is above zero
odd-below : (d q k l : ℕ) → lt nought (odd d true q k l) ≡ false
unfolding odd lt
odd-below d zero k l = refl
odd-below d (suc q) k l = refl

fields-below : (f : Format) (x t : ℕ) → lt nought (of_fields f true x t) ≡ false
unfolding of_fields
fields-below f zero t = odd-below (prec f) t 0 (low f)
fields-below f (suc x) t = go (eqb (suc x) (ones f)) (eqb t 0) (odd-below (prec f) (hid f + t) x (low f))
  where
    go : (a b : Bool) → lt nought (odd (prec f) true (hid f + t) x (low f)) ≡ false → lt nought (cond a (cond b (inf true) nan) (odd (prec f) true (hid f + t) x (low f))) ≡ false
    go true true h = unfold lt in refl
    go true false h = unfold lt in refl
    go false b h = h

signed_below : (f : Format) (b : ℕ) → top f ≤ b → lt nought (of_bits f b) ≡ false
unfolding of_bits
signed_below f b h =
    ap (λ (s : Bool). lt nought (of_fields f s (b % top f / hid f) (b % hid f))) (is_true (leb (top f) b) (le→leb (top f) b h))
    ∙ fields-below f (b % top f / hid f) (b % hid f)

-- a value above zero that is not infinite has a pattern between those of zero and infinity
module _ (f : Format) (x : Float) (fit : T (fits f x)) (over : lt (of_bits f 0) x ≡ true) where
  own : of_bits f (to_bits f x) ≡ x
  own = of_bits-to_bits f x fit

  over-bits : lt nought (of_bits f (to_bits f x)) ≡ true
  over-bits = ap (lt nought) own ∙ over-nought f x over

  pub bits_pos : 0 < to_bits f x
  bits_pos = go (eq-zero-or-pos (to_bits f x))
    where
      go : (to_bits f x ≡ 0) ⊎ (0 < to_bits f x) → 0 < to_bits f x
      go (inl e) = absurd (false≢true (sym zero-self ∙ ap (lt nought) (sym (zero_bits f) ∙ ap (of_bits f) (sym e)) ∙ over-bits))
        where
          zero-self : lt nought nought ≡ false
          zero-self = unfold lt in refl
      go (inr l) = l

  under_top : to_bits f x < top f
  under_top = go (leb (top f) (to_bits f x)) (leb→le (top f) (to_bits f x)) (nleb→lt (top f) (to_bits f x))
    where
      go : (c : Bool) → (T c → top f ≤ to_bits f x) → (T (not c) → to_bits f x < top f) → to_bits f x < top f
      go true y n = absurd (false≢true (sym (signed_below f (to_bits f x) (y tt)) ∙ over-bits))
      go false y n = n tt

  not-above : to_bits f x ≤ ones f * hid f
  not-above = go (ltb (ones f * hid f) (to_bits f x)) refl (nltb→le (ones f * hid f) (to_bits f x))
    where
      nan-test : nan_bits f (to_bits f x) ≡ ltb (ones f * hid f) (to_bits f x)
      nan-test = nan_bits_above f (to_bits f x) ∙ ap (λ (y : ℕ). ltb (ones f * hid f) y) (mod-eq_of_lt under_top)

      go : (c : Bool) → ltb (ones f * hid f) (to_bits f x) ≡ c → (T (not c) → to_bits f x ≤ ones f * hid f) → to_bits f x ≤ ones f * hid f
      go true e n = absurd (subst (λ (y : Bool). T (not y)) (ap is_nan (sym own) ∙ sym (nan_bits_is f (to_bits f x)) ∙ nan-test ∙ e) (no_nan f x over))
      go false e n = n tt

  pub bits-under : (to_bits f x ≡ ones f * hid f → ⊥) → to_bits f x < ones f * hid f
  bits-under h = lt_of_le-ne not-above h

-- ---- the answers that need no digits
pub infinite-root : (f : Format) (x : Float) → T (fits f x) → to_bits f x ≡ ones f * hid f → x ≡ root f x
infinite-root f x fit e = let i : x ≡ inf false = sym (of_bits-to_bits f x fit) ∙ ap (of_bits f) e ∙ infinity-bits f in i ∙ sym at-infinity ∙ ap (root f) (sym i)
  where
    at-infinity : root f (inf false) ≡ inf false
    at-infinity = unfold root in refl

some : (m : ℕ) (e : ℤ) → 0 < suc m * up e * 1
some m e = mul-pos (mul-pos (zero-lt-suc m) (up_pos e)) (zero-lt-suc 0)

below_root : (f : Format) (x : Float) → lt x nought ≡ true → root f x ≡ nan
unfolding lt root
below_root f nan h = absurd (false≢true h)
below_root f (inf true) h = refl
below_root f (inf false) h = absurd (false≢true h)
below_root f (fin true zero e) h = absurd (none (zero * up e * 1) (0 * 1 * down e) (ap (λ (y : ℕ). y * 1) (zero-mul (up e))) (zero-mul (down e)) (ltb→lt 0 (zero * up e * 1 + 0 * 1 * down e) (subst T (sym h) tt)))
  where
    none : (a b : ℕ) → a ≡ 0 → b ≡ 0 → 0 < a + b → ⊥
    none a b p q l = omega arith
below_root f (fin true (suc m) e) h = refl
below_root f (fin false m e) h = absurd (none (m * up e * 1) (0 * 1 * down e) (zero-mul (down e)) (ltb→lt (m * up e * 1) (0 * 1 * down e) (subst T (sym h) tt)))
  where
    none : (a b : ℕ) → b ≡ 0 → a < b → ⊥
    none a b q l = omega arith

level-root : (f : Format) (x : Float) → lt nought x ≡ false → lt x nought ≡ false → x ≡ root f x
unfolding lt root
level-root f nan h k = refl
level-root f (inf true) h k = absurd (true≢false k)
level-root f (inf false) h k = absurd (true≢false h)
level-root f (fin s zero e) h k = refl
level-root f (fin true (suc m) e) h k = absurd (subst T k (lt→ltb 0 (suc m * up e * 1 + 0 * 1 * down e) (lt_of_lt_of_le (some m e) (le-add_right (suc m * up e * 1) (0 * 1 * down e)))))
level-root f (fin false (suc m) e) h k = absurd (subst T h (lt→ltb (0 * 1 * down e) (suc m * up e * 1) (subst (λ (y : ℕ). y < suc m * up e * 1) (sym (zero-mul (down e))) (some m e))))

-- the pattern that the code has for a NaN
written-nan : (f : Format) → of_bits f (ones f * hid f + hid f / 2) ≡ nan
unfolding of_bits
written-nan binary32 = refl
written-nan binary64 = refl

pub negative-root : (f : Format) (x : Float) → lt x (of_bits f 0) ≡ true → of_bits f (ones f * hid f + hid f / 2) ≡ root f x
negative-root f x h = written-nan f ∙ sym (below_root f x (under-nought f x h))

pub own_root : (f : Format) (x : Float) → lt (of_bits f 0) x ≡ false → lt x (of_bits f 0) ≡ false → x ≡ root f x
own_root f x h k = level-root f x (over-nought f x h) (under-nought f x k)

-- ---- the root of a value above zero is no NaN, and its bits give it back
value-no-nan : (x : Float) (a c : ℕ) → HasValue x false a c → T (not (is_nan x))
unfolding is_nan
value-no-nan nan a c v = absurd v
value-no-nan (inf s) a c v = tt
value-no-nan (fin s m e) a c v = tt

root-no-nan : (f : Format) (x : Float) → T (fits f x) → lt nought x ≡ true → T (not (is_nan (root f x)))
unfolding lt
root-no-nan f nan fit h = absurd (false≢true h)
root-no-nan f (inf true) fit h = absurd (false≢true h)
root-no-nan f (inf false) fit h = unfold root is_nan in tt
root-no-nan f (fin s zero e) fit h = unfold root is_nan in tt
root-no-nan f (fin true (suc m) e) fit h = absurd (false≢true h)
root-no-nan f (fin false (suc m) e) fit h = let r = root-rooted f m e fit in value-no-nan (root f (fin false (suc m) e)) (r.q * 2 ^ r.k) (2 ^ low f) r.y-is

module _ (f : Format) (x : Float) (b : ℕ) (fit : T (fits f x)) (over : lt (of_bits f 0) x ≡ true) (e : b ≡ to_bits f (root f x)) where
  pub root-back : of_bits f b ≡ root f x
  root-back = ap (of_bits f) e ∙ of_bits-to_bits f (root f x) (root-fits f x fit)

  pub root-pattern : T (not (nan_bits f b))
  root-pattern = subst (λ (y : Bool). T (not y)) (sym (nan_bits_is f b ∙ ap is_nan root-back)) (root-no-nan f x fit (over-nought f x over))

  pub root-width : b < 2 * top f
  root-width = subst (λ (y : ℕ). y < 2 * top f) (sym e) (to_bits-lt f (root f x) (root-fits f x fit))
