-- `next_up x` is the least f32 above x: it is above x, whatever number below infinity x is (`next-above`), and at most any f32 above x (`next-least`),
-- so that none lies between (`next-none-between`). Assumes nothing.
use Rattle.std.proofs.Common.{◌≡◌, ℕ, zero, suc, ◌+◌, ◌-◌, ◌*◌, ◌/◌, ◌%◌, ◌<◌, ◌≤◌, Bool, true, false, cond, not, T, eqb, ltb, ℤ, negsuc, sym, refl, ap, ◌∙◌, subst, le_trans, le_of_eq, lt_of_le_of_lt, add_comm, one-mul, lt_of_not-le, zero-add, zero-mul, arith, lt→ltb, le-ltb, lt-ltb}
use lib.Ieee.{Float, nan, inf, fin, binary32, up, down, odd, of_fields, fits, is_nan, to_bits, of_bits, nan_bits, neg, below, lt, le}
use lib.Ieee.Bits.{of_bits-to_bits, to_bits-of_bits, to_bits-lt, of_bits-fits, nan_bits_is}
use lib.Ieee.Fits.{down_pos}
use Rattle.bits.specs.Key.{turned, key}
use Rattle.bits.specs.NextUp.{next_up}
use Rattle.bits.proofs.Tests.{no_nan}
use Rattle.bits.proofs.Pattern.{read}
use Rattle.bits.proofs.NextUp.{minus-bits, zero_bits, plus-bits, minus-over, turn, rising-number, falling-number}
use Rattle.bits.proofs.Compare.{number, number_is, plus, lt-number-l, lt-number-r, lt_not_le}
use Rattle.bits.proofs.Keys.{key-le, key-lt}

-- ---- the value of a pattern that is no NaN's
number_of : (b : ℕ) → T (not (nan_bits binary32 b)) → T (number (of_bits binary32 b))
number_of b h = subst T (sym (number_is (of_bits binary32 b))) (subst (λ (z : Bool). T (not z)) (nan_bits_is binary32 b) h)

bits_of : (b : ℕ) → b < 4294967296 → T (not (nan_bits binary32 b)) → to_bits binary32 (of_bits binary32 b) ≡ b
bits_of b h n = to_bits-of_bits binary32 b h (subst (λ (z : Bool). T (not z)) (nan_bits_is binary32 b) n)

key_of : (b : ℕ) → b < 4294967296 → T (not (nan_bits binary32 b)) → key (of_bits binary32 b) ≡ turned b
unfolding key
key_of b h n = ap turned (bits_of b h n)

rising-key : (b : ℕ) → b < 2147483648 → turned b ≡ 2147483648 + b
rising-key b h = rw (lt-ltb b 2147483648 h)

falling-key : (b : ℕ) → 2147483648 ≤ b → turned b ≡ 4294967295 - b
falling-key b h = rw (le-ltb b 2147483648 h)

-- ---- one bit pattern further is one key further
key-rises : (m : ℕ) (e : ℤ) → T (fits binary32 (fin false (suc m) e)) → key (next_up (fin false (suc m) e)) ≡ suc (key (fin false (suc m) e))
unfolding next_up key
key-rises m e f =
    let b = to_bits binary32 (fin false (suc m) e) in
    let l : b < 2139095040 = plus-bits (suc m) e f in
    key_of (b + 1) (omega arith) (rising-number b l) ∙ rising-key (b + 1) (omega arith) ∙ more b ∙ sym (ap suc (rising-key b (omega arith)))
  where
    more : (b : ℕ) → 2147483648 + (b + 1) ≡ suc (2147483648 + b)
    more b = omega arith

module _ (x : Float) (f : T (fits binary32 x)) (n : T (not (is_nan x))) (l : 2147483648 < to_bits binary32 x) where
  falling-next : T (not (nan_bits binary32 (to_bits binary32 x - 1)))
  falling-next = falling-number x f n (omega arith) (λ e. omega arith) (λ e. omega arith)

  key-falls : key (of_bits binary32 (to_bits binary32 x - 1)) ≡ suc (key x)
  unfolding key
  key-falls =
      let b = to_bits binary32 x in
      let t : b < 4294967296 = to_bits-lt binary32 x f in
      key_of (b - 1) (omega arith) falling-next ∙ falling-key (b - 1) (omega arith) ∙ more b l t ∙ sym (ap suc (falling-key b (omega arith)))
    where
      more : (b : ℕ) → 2147483648 < b → b < 4294967296 → 4294967295 - (b - 1) ≡ suc (4294967295 - b)
      more b l t = omega arith

-- ---- zeros: lt does not see their sign
zero-sign : (e : ℤ) (y : Float) → lt (fin true 0 e) y ≡ lt (fin false 0 e) y
unfolding lt
zero-sign e nan = refl
zero-sign e (inf t) = refl
zero-sign e (fin t n d) = go t (0 * up e * down d) (n * up d * down e) (ap (λ (z : ℕ). z * down d) (zero-mul (up e)) ∙ zero-mul (down d))
  where
    go : (t : Bool) (a b : ℕ) → a ≡ 0 → below true a t b ≡ below false a t b
    go false a b h = rw (h, zero-add b)
    go true a b h = le-ltb b a (omega arith)

-- ---- the laws
fits_next : (x : Float) → T (fits binary32 (next_up x))
unfolding next_up fits
fits_next nan = tt
fits_next (inf false) = tt
fits_next (inf true) = of_bits-fits binary32 (to_bits binary32 (inf true) - 1)
fits_next (fin s zero e) = tt
fits_next (fin false (suc m) e) = of_bits-fits binary32 (to_bits binary32 (fin false (suc m) e) + 1)
fits_next (fin true (suc m) e) = of_bits-fits binary32 (to_bits binary32 (fin true (suc m) e) - 1)

-- what is above has a higher key
higher : (x y : Float) → T (fits binary32 x) → T (fits binary32 y) → T (lt x y) → key x < key y
higher x y f g h = lt_of_not-le (λ (k : key y ≤ key x). lt_not_le x y h (key-le y x g f (lt-number-r x y h) (lt-number-l x y h) k))

by_key : (x y : Float) → T (fits binary32 x) → T (fits binary32 y) → T (number (next_up x)) → key (next_up x) ≡ suc (key x) → T (lt x y) → T (le (next_up x) y)
by_key x y f g n e h = key-le (next_up x) y (fits_next x) g n (lt-number-r x y h) (le_trans (le_of_eq e) (higher x y f g h))

inf-over : 2147483648 < to_bits binary32 (inf true)
unfolding to_bits
inf-over = omega arith

zero-key : (e : ℤ) → key (fin false 0 e) ≡ 2147483648
unfolding key
zero-key e = ap turned (zero_bits e)

least-key : key (fin false 1 (negsuc 148)) ≡ 2147483649
unfolding key to_bits
least-key = refl

zero-least : (e : ℤ) (y : Float) → T (fits binary32 (fin false 0 e)) → T (fits binary32 y) → T (lt (fin false 0 e) y) → T (le (fin false 1 (negsuc 148)) y)
unfolding fits
zero-least e y f g h =
    key-le (fin false 1 (negsuc 148)) y tt g tt (lt-number-r (fin false 0 e) y h) (le_trans (le_of_eq (least-key ∙ ap suc (sym (zero-key e)))) (higher (fin false 0 e) y f g h))

pub next-least : (x y : Float) → T (fits binary32 x) → T (fits binary32 y) → T (lt x y) → T (le (next_up x) y)
unfolding next_up lt is_nan fits
next-least nan y f g h = absurd h
next-least (inf false) nan f g h = absurd h
next-least (inf false) (inf t) f g h = absurd h
next-least (inf false) (fin t n d) f g h = absurd h
next-least (inf true) y f g h =
    by_key (inf true) y f g (number_of (to_bits binary32 (inf true) - 1) (falling-next (inf true) f tt inf-over)) (key-falls (inf true) f tt inf-over) h
next-least (fin false zero e) y f g h = zero-least e y f g h
next-least (fin true zero e) y f g h = zero-least e y f g (subst T (zero-sign e y) h)
next-least (fin false (suc m) e) y f g h =
    by_key (fin false (suc m) e) y f g (number_of (to_bits binary32 (fin false (suc m) e) + 1) (rising-number (to_bits binary32 (fin false (suc m) e)) (plus-bits (suc m) e f))) (key-rises m e f) h
next-least (fin true (suc m) e) y f g h =
    by_key (fin true (suc m) e) y f g (number_of (to_bits binary32 (fin true (suc m) e) - 1) (falling-next (fin true (suc m) e) f tt (minus-over m e f))) (key-falls (fin true (suc m) e) f tt (minus-over m e f)) h

pub next-none-between : (x y : Float) → T (fits binary32 x) → T (fits binary32 y) → T (lt x y) → T (lt y (next_up x)) → ⊥
next-none-between x y f g h k = lt_not_le y (next_up x) k (next-least x y f g h)

-- ---- a negative value by its magnitude
odd-neg : (d q k l : ℕ) → neg (odd d false q k l) ≡ odd d true q k l
unfolding odd neg
odd-neg d zero k l = refl
odd-neg d (suc q) k l = refl

fields_neg : (x t : ℕ) → neg (of_fields binary32 false x t) ≡ of_fields binary32 true x t
unfolding of_fields
fields_neg zero t = odd-neg 24 t 0 149
fields_neg (suc x) t = go (eqb (suc x) 255) (eqb t 0)
  where
    go : (a b : Bool) → neg (cond a (cond b (inf false) nan) (odd 24 false (8388608 + t) x 149)) ≡ cond a (cond b (inf true) nan) (odd 24 true (8388608 + t) x 149)
    go true true = unfold neg in refl
    go true false = unfold neg in refl
    go false b = odd-neg 24 (8388608 + t) x 149

bits-neg : (a : ℕ) → a < 2147483648 → neg (of_bits binary32 (0 + a)) ≡ of_bits binary32 (2147483648 + a)
bits-neg a h = ap neg (read binary32 false a h) ∙ fields_neg (a / 8388608) (a % 8388608) ∙ sym (read binary32 true a h)

lt-neg : (x y : Float) → T (lt x y) → T (lt (neg y) (neg x))
unfolding lt neg
lt-neg nan y h = absurd h
lt-neg (inf s) nan h = absurd h
lt-neg (inf true) (inf false) h = tt
lt-neg (inf true) (inf true) h = absurd h
lt-neg (inf false) (inf t) h = absurd h
lt-neg (inf true) (fin t n d) h = tt
lt-neg (inf false) (fin t n d) h = absurd h
lt-neg (fin s m e) nan h = absurd h
lt-neg (fin s m e) (inf true) h = absurd h
lt-neg (fin s m e) (inf false) h = tt
lt-neg (fin s m e) (fin t n d) h = go s t (m * up e * down d) (n * up d * down e) h
  where
    go : (s t : Bool) (a b : ℕ) → T (below s a t b) → T (below (not t) b (not s) a)
    go false false a b h = h
    go false true a b h = absurd h
    go true false a b h = subst (λ (z : ℕ). T (ltb 0 z)) (add_comm a b) h
    go true true a b h = h

-- ---- above
odd-plus : (d q k l : ℕ) → T (plus (odd d false q k l))
unfolding odd
odd-plus d zero k l = tt
odd-plus d (suc q) k l = tt

fields-plus : (x t : ℕ) → T (plus (of_fields binary32 false x t))
unfolding of_fields
fields-plus zero t = odd-plus 24 t 0 149
fields-plus (suc x) t = go (eqb (suc x) 255) (eqb t 0)
  where
    go : (a b : Bool) → T (plus (cond a (cond b (inf false) nan) (odd 24 false (8388608 + t) x 149)))
    go true true = tt
    go true false = tt
    go false b = odd-plus 24 (8388608 + t) x 149

-- of two patterns of numbers with the sign clear the lower is of the lower value
lt-of-bits : (a b : ℕ) → a < b → b ≤ 2139095040 → T (lt (of_bits binary32 (0 + a)) (of_bits binary32 (0 + b)))
lt-of-bits a b h k =
    (key-lt (of_bits binary32 (0 + a)) (of_bits binary32 (0 + b)) (of_bits-fits binary32 (0 + a)) (of_bits-fits binary32 (0 + b)) (clear a (omega arith)) (clear b (omega arith)) (number_of (0 + a) (no a (omega arith))) (number_of (0 + b) (no b (omega arith)))).1
    (subst (λ (z : ℕ). z < key (of_bits binary32 (0 + b))) (sym (at a (omega arith))) (subst (λ (z : ℕ). 2147483648 + (0 + a) < z) (sym (at b (omega arith))) (omega arith)))
  where
    clear : (a : ℕ) → a < 2147483648 → T (plus (of_bits binary32 (0 + a)))
    clear a h = subst (λ (z : Float). T (plus z)) (sym (read binary32 false a h)) (fields-plus (a / 8388608) (a % 8388608))

    no : (a : ℕ) → a ≤ 2139095040 → T (not (nan_bits binary32 (0 + a)))
    no a h = no_nan binary32 (0 + a) (omega arith)

    at : (a : ℕ) → a ≤ 2139095040 → key (of_bits binary32 (0 + a)) ≡ 2147483648 + (0 + a)
    at a h = key_of (0 + a) (omega arith) (no a h) ∙ rising-key (0 + a) (omega arith)

zero-above : (e : ℤ) → T (lt (fin false 0 e) (fin false 1 (negsuc 148)))
unfolding lt
zero-above e = lt→ltb (0 * up e * down (negsuc 148)) (1 * 1 * down e) (go (0 * up e) (1 * 1 * down e) (zero-mul (up e)) (subst (λ (z : ℕ). 0 < z) (sym (one-mul (down e))) (down_pos e)))
  where
    go : (a b : ℕ) → a ≡ 0 → 0 < b → a * down (negsuc 148) < b
    go a b h k = lt_of_le_of_lt (le_of_eq (ap (λ (z : ℕ). z * down (negsuc 148)) h ∙ zero-mul (down (negsuc 148)))) k

pub next-above : (x : Float) → T (fits binary32 x) → T (lt x (inf false)) → T (lt x (next_up x))
unfolding next_up
next-above nan f h = unfold lt in h
next-above (inf true) f h = unfold lt to_bits of_bits in tt
next-above (inf false) f h = absurd (unfold lt in h)
next-above (fin false zero e) f h = zero-above e
next-above (fin true zero e) f h = subst T (sym (zero-sign e (fin false 1 (negsuc 148)))) (zero-above e)
next-above (fin false (suc m) e) f h =
    let x = fin false (suc m) e in
    let b = to_bits binary32 x in
    let p : of_bits binary32 (0 + b) ≡ x = ap (λ (z : ℕ). of_bits binary32 z) (zero-add b) ∙ of_bits-to_bits binary32 x f in
    let q : of_bits binary32 (0 + (b + 1)) ≡ of_bits binary32 (b + 1) = ap (λ (z : ℕ). of_bits binary32 z) (zero-add (b + 1)) in
    subst (λ (z : Float). T (lt z (of_bits binary32 (b + 1)))) p
    (subst (λ (z : Float). T (lt (of_bits binary32 (0 + b)) z)) q (lt-of-bits b (b + 1) (omega arith) (omega (arith, plus-bits (suc m) e f))))
next-above (fin true (suc m) e) f h =
    let x = fin true (suc m) e in
    let b = to_bits binary32 x in
    let a = to_bits binary32 (fin false (suc m) e) in
    let i : b ≡ 2147483648 + a = minus-bits (suc m) e in
    let l : 2147483648 < b = minus-over m e f in
    let t : a < 2139095040 = plus-bits (suc m) e (turn true false (suc m) e f) in
    let r : 2147483648 + (a - 1) ≡ b - 1 = omega arith in
    let p : neg (of_bits binary32 (0 + a)) ≡ x = bits-neg a (omega arith) ∙ ap (λ (z : ℕ). of_bits binary32 z) (sym i) ∙ of_bits-to_bits binary32 x f in
    let q : neg (of_bits binary32 (0 + (a - 1))) ≡ of_bits binary32 (b - 1) = bits-neg (a - 1) (omega arith) ∙ ap (λ (z : ℕ). of_bits binary32 z) r in
    subst (λ (z : Float). T (lt z (of_bits binary32 (b - 1)))) p
    (subst (λ (z : Float). T (lt (neg (of_bits binary32 (0 + a))) z)) q
    (lt-neg (of_bits binary32 (0 + (a - 1))) (of_bits binary32 (0 + a)) (lt-of-bits (a - 1) a (omega arith) (omega arith))))
