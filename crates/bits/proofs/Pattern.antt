-- What `round` gives, as a bit pattern: the digits kept added to the exponent's field times its weight, so that a carry out of the digits
-- raises the field by itself. For either format. Assumes nothing.
use Rattle.std.proofs.Common.{◌≡◌, ℕ, zero, suc, ◌+◌, ◌-◌, ◌*◌, ◌/◌, ◌%◌, ◌^◌, ◌<◌, ◌≤◌, Bool, true, false, cond, ltb, leb, sym, refl, ap, ◌∙◌, subst, inl, inr, le_trans, le_of_eq, lt_of_lt_of_le, le-add_right, lt_of_le_of_lt, add_assoc, lt_irrefl, mul-le-mul_right, mod-eq_of_lt, zero-lt-suc, mul_assoc, suc-mul, mul_comm, div-lt_iff_lt-mul, eq-or-lt_of_le, mul-pos, lt_of_not-le, le-div_iff_mul-le, zero-add, mul-div_cancel, mul_left_comm, arith, le→leb, lt→ltb, pow_pos, pow_mono, pow-add, shl_lt}
use Prim.Native.Nat.{compare}
use native.Mathlib.Nat.{add-mod_left, mul-add-mod_self_left, pow-succ'}
use lib.Arith.{le→nltb, lt→nleb}
use lib.Ieee.{Float, nan, inf, fin, Format, prec, emax, low, hid, ones, top, up, down, size, odd, units, round, of_fields, to_bits, of_bits}
use lib.Ieee.Bits.{of_bits-to_bits, is_true, is_false}
use lib.Ieee.Digits.{size-lt, size-le}
use lib.Ieee.Exact.{HasValue, odd_sign}
use lib.Ieee.Fits.{down_pos, odd-fits, nearest-le, round_is, two, two-le_pos}
use lib.Ieee.Nearest.{closest, closest_same, div_same, nearest-ge}

pow_lt_back : (i p : ℕ) → 2 ^ i < 2 ^ p → i < p
pow_lt_back i p h = lt_of_not-le (λ (g : p ≤ i). lt_irrefl (2 ^ i) (lt_of_lt_of_le h (pow_mono g)))

none : (z p : ℕ) → z ≤ p + 0 → z - p ≡ 0
none z p h = omega arith

some : (z p k : ℕ) → 0 < p → z ≤ p + k → p - 1 + k < z → z - p ≡ k
some z p k P a b = omega arith

-- how many digits a number has beyond p
dropped : (p a k : ℕ) → 0 < p → a < 2 ^ (p + k) → (0 < k → 2 ^ (p - 1 + k) ≤ a) → size a - p ≡ k
dropped p a zero P hi lo = none (size a) p (size-le a (p + 0) hi)
dropped p a (suc k) P hi lo =
    some (size a) p (suc k) P (size-le a (p + suc k) hi) (pow_lt_back (p - 1 + suc k) (size a) (lt_of_le_of_lt (lo (zero-lt-suc k)) (size-lt a)))

-- ---- a value of q * 2 ^ k units
pub bits_of_value : (f : Format) (x : Float) (s : Bool) (q k : ℕ) → q < 2 ^ prec f → (0 < k → hid f ≤ q) → HasValue x s (q * 2 ^ k) (2 ^ low f) → to_bits f x ≡ cond s (top f) 0 + (k * hid f + q)
unfolding to_bits
bits_of_value f nan s q k Q K v = absurd v
bits_of_value f (inf t) s q k Q K v = absurd v
bits_of_value f (fin t m e) s q k Q K v =
    let a = q * 2 ^ k in
    let n : m * up e * 2 ^ low f / down e ≡ a = ap (λ (x : ℕ). x / down e) v.1 ∙ mul-div_cancel a (down_pos e) in
    let lo : (0 < k → 2 ^ (prec f - 1 + k) ≤ a) = λ g. le_trans (le_of_eq (pow-add 2 (prec f - 1) k)) (mul-le-mul_right (2 ^ k) (K g)) in
    let d : size a - prec f ≡ k = dropped (prec f) a k (two-le_pos (prec f) (two f)) (shl_lt (prec f) k Q) lo in
    ap (λ (b : Bool). cond b (top f) 0 + (size (m * up e * 2 ^ low f / down e) - prec f) * hid f + m * up e * 2 ^ low f / down e / 2 ^ (size (m * up e * 2 ^ low f / down e) - prec f)) v.0
    ∙ ap (λ (x : ℕ). cond s (top f) 0 + (size x - prec f) * hid f + x / 2 ^ (size x - prec f)) n
    ∙ ap (λ (j : ℕ). cond s (top f) 0 + j * hid f + a / 2 ^ j) d
    ∙ ap (λ (y : ℕ). cond s (top f) 0 + k * hid f + y) (mul-div_cancel q (pow_pos k))
    ∙ add_assoc (cond s (top f) 0) (k * hid f) q

suc-pred : (p : ℕ) → 0 < p → suc (p - 1) ≡ p
suc-pred p h = omega arith

twice_hid : (p : ℕ) → 0 < p → 2 ^ p ≡ 2 ^ (p - 1) * 2
twice_hid p h = ap (λ (x : ℕ). 2 ^ x) (sym (suc-pred p h)) ∙ pow-succ' 2 (p - 1) ∙ mul_comm 2 (2 ^ (p - 1))

-- q may have one digit too many, where it is 2 ^ prec
odd-bits : (f : Format) (s : Bool) (q k : ℕ) → q ≤ 2 ^ prec f → (0 < k → hid f ≤ q) → to_bits f (odd (suc (prec f)) s q k (low f)) ≡ cond s (top f) 0 + (k * hid f + q)
odd-bits f s q k Q K = elim (eq-or-lt_of_le Q) [
  | inl e ↦
      let x = odd (suc (prec f)) s q k (low f) in
      let t : q ≡ hid f * 2 = e ∙ twice_hid (prec f) (two-le_pos (prec f) (two f)) in
      let w : q * 2 ^ k ≡ hid f * 2 ^ suc k = ap (λ (z : ℕ). z * 2 ^ k) t ∙ mul_assoc (hid f) 2 (2 ^ k) ∙ ap (λ (z : ℕ). hid f * z) (sym (pow-succ' 2 k)) in
      let small : hid f < 2 ^ prec f = lt_of_lt_of_le (half (hid f) (pow_pos (prec f - 1))) (le_of_eq (sym (twice_hid (prec f) (two-le_pos (prec f) (two f))))) in
      bits_of_value f x s (hid f) (suc k) small (λ g. le_of_eq refl) (subst (λ (z : ℕ). HasValue x s z (2 ^ low f)) w (odd_sign (suc (prec f)) s q k (low f)))
      ∙ ap (λ (z : ℕ). cond s (top f) 0 + z) (ap (λ (z : ℕ). z + hid f) (suc-mul k (hid f)) ∙ onto (k * hid f) (hid f) q t)
  | inr l ↦ bits_of_value f (odd (suc (prec f)) s q k (low f)) s q k l K (odd_sign (suc (prec f)) s q k (low f))
]
  where
    half : (h : ℕ) → 0 < h → h < h * 2
    half h p = omega arith

    onto : (a h q : ℕ) → q ≡ h * 2 → a + h + h ≡ a + q
    onto a h q e = omega arith

-- ---- `units`
units-odd : (f : Format) (s : Bool) (q k : ℕ) → q * 2 ^ k < 2 ^ (low f + suc (emax f)) → units f s q k ≡ odd (suc (prec f)) s q k (low f)
unfolding units
units-odd f s q k h =
    ap (λ (b : Bool). cond b (odd (suc (prec f)) s q k (low f)) (inf s)) (is_true (ltb (q * 2 ^ k) (2 ^ (low f + suc (emax f)))) (lt→ltb (q * 2 ^ k) (2 ^ (low f + suc (emax f))) h))

pub units-inf : (f : Format) (s : Bool) (q k : ℕ) → 2 ^ (low f + suc (emax f)) ≤ q * 2 ^ k → units f s q k ≡ inf s
unfolding units
units-inf f s q k h =
    ap (λ (b : Bool). cond b (odd (suc (prec f)) s q k (low f)) (inf s)) (is_false (ltb (q * 2 ^ k) (2 ^ (low f + suc (emax f)))) (le→nltb (q * 2 ^ k) (2 ^ (low f + suc (emax f))) h))

pub units-bits : (f : Format) (s : Bool) (q k : ℕ) → q ≤ 2 ^ prec f → (0 < k → hid f ≤ q) → q * 2 ^ k < 2 ^ (low f + suc (emax f)) → units f s q k ≡ of_bits f (cond s (top f) 0 + (k * hid f + q))
units-bits f s q k Q K h =
    let x = odd (suc (prec f)) s q k (low f) in
    let room : q < 2 ^ suc (prec f) = lt_of_le_of_lt Q (more (prec f)) in
    units-odd f s q k h ∙ sym (of_bits-to_bits f x (odd-fits f (suc (prec f)) s q k room Q h)) ∙ ap (λ (b : ℕ). of_bits f b) (odd-bits f s q k Q K)
  where
    double : (p z : ℕ) → 0 < p → z ≡ 2 * p → p < z
    double p z h e = omega arith

    more : (p : ℕ) → 2 ^ p < 2 ^ suc p
    more p = double (2 ^ p) (2 ^ suc p) (pow_pos p) (pow-succ' 2 p)

-- ---- `round` of M * 2 ^ k / 2 ^ t units
module _ (f : Format) (s : Bool) (M k t : ℕ) (hi : M < 2 ^ (prec f + t)) (lo : 0 < k → 2 ^ (prec f - 1 + t) ≤ M) where
  whole_drop : size (M * 2 ^ k / 2 ^ t) - prec f ≡ k
  whole_drop =
      dropped (prec f) (M * 2 ^ k / 2 ^ t) k (two-le_pos (prec f) (two f))
      ((div-lt_iff_lt-mul (pow_pos t)).1 (lt_of_lt_of_le (shl_lt (prec f + t) k hi) (le_of_eq (simp (pow-add, mul_assoc, mul_comm, mul_left_comm)))))
      (λ g. (le-div_iff_mul-le (pow_pos t)).1 (le_trans (le_of_eq (simp (pow-add, mul_assoc, mul_comm, mul_left_comm))) (mul-le-mul_right (2 ^ k) (lo g))))

  pub round-units : round f s (M * 2 ^ k) (2 ^ (low f + t)) ≡ units f s (closest M (2 ^ t)) k
  round-units =
      let n = M * 2 ^ k * 2 ^ low f in
      let den = 2 ^ (low f + t) in
      let w : n / den ≡ M * 2 ^ k / 2 ^ t = div_same n den (M * 2 ^ k) (2 ^ t) (pow_pos (low f + t)) (pow_pos t) (mul_assoc (M * 2 ^ k) (2 ^ low f) (2 ^ t) ∙ ap (λ (z : ℕ). M * 2 ^ k * z) (sym (pow-add 2 (low f) t))) in
      let d : size (n / den) - prec f ≡ k = ap (λ (z : ℕ). size z - prec f) w ∙ whole_drop in
      round_is f s (M * 2 ^ k) den
      ∙ ap (λ (j : ℕ). units f s (closest n (den * 2 ^ j)) j) d
      ∙ ap (λ (z : ℕ). units f s z k)
      (closest_same n (den * 2 ^ k) M (2 ^ t) (mul-pos (pow_pos (low f + t)) (pow_pos k)) (pow_pos t) (simp (pow-add, mul_assoc, mul_comm, mul_left_comm)))

  pub kept-le : closest M (2 ^ t) ≤ 2 ^ prec f
  kept-le =
      le_trans (nearest-le (M / 2 ^ t) (compare (M % 2 ^ t * 2) (2 ^ t)))
      ((div-lt_iff_lt-mul (pow_pos t)).1 (lt_of_lt_of_le hi (le_of_eq (pow-add 2 (prec f) t))))

  pub kept-ge : 0 < k → hid f ≤ closest M (2 ^ t)
  kept-ge g =
      le_trans ((le-div_iff_mul-le (pow_pos t)).1 (le_trans (le_of_eq (sym (pow-add 2 (prec f - 1) t))) (lo g)))
      (nearest-ge (M / 2 ^ t) (compare (M % 2 ^ t * 2) (2 ^ t)))

  pub round-bits : closest M (2 ^ t) * 2 ^ k < 2 ^ (low f + suc (emax f)) → round f s (M * 2 ^ k) (2 ^ (low f + t)) ≡ of_bits f (cond s (top f) 0 + (k * hid f + closest M (2 ^ t)))
  round-bits h = round-units ∙ units-bits f s (closest M (2 ^ t)) k kept-le kept-ge h

-- ---- a pattern by its sign and the rest
fields : (f : Format) (s s' : Bool) (x x' t t' : ℕ) → s ≡ s' → x ≡ x' → t ≡ t' → of_fields f s x t ≡ of_fields f s' x' t'
fields f s s' x x' t t' p q r = ap (λ (a : Bool). of_fields f a x t) p ∙ ap (λ (a : ℕ). of_fields f s' a t) q ∙ ap (λ (a : ℕ). of_fields f s' x' a) r

pub read : (f : Format) (s : Bool) (a : ℕ) → a < top f → of_bits f (cond s (top f) 0 + a) ≡ of_fields f s (a / hid f) (a % hid f)
unfolding of_bits
read f true a h =
    fields f (leb (top f) (top f + a)) true ((top f + a) % top f / hid f) (a / hid f) ((top f + a) % hid f) (a % hid f)
    (is_true (leb (top f) (top f + a)) (le→leb (top f) (top f + a) (le-add_right (top f) a)))
    (ap (λ (z : ℕ). z / hid f) (add-mod_left (top f) a ∙ mod-eq_of_lt h))
    (mul-add-mod_self_left (hid f) (suc (ones f)) a)
read f false a h =
    fields f (leb (top f) (0 + a)) false ((0 + a) % top f / hid f) (a / hid f) ((0 + a) % hid f) (a % hid f)
    (ap (λ (z : ℕ). leb (top f) z) (zero-add a) ∙ is_false (leb (top f) a) (lt→nleb (top f) a h))
    (ap (λ (z : ℕ). z % top f / hid f) (zero-add a) ∙ ap (λ (z : ℕ). z / hid f) (mod-eq_of_lt h))
    (ap (λ (z : ℕ). z % hid f) (zero-add a))
