-- `key`, which is `total_cmp` as a number, against the order of the values. Of two numbers the one of lower key is `le` the other; values of equal key are the same;
-- and among values whose sign is clear, as distances are, `lt` and `le` say what `<` and `≤` say of the keys.
use Rattle.std.proofs.Common.{◌≡◌, ℕ, zero, suc, ◌+◌, ◌-◌, ◌*◌, ◌/◌, ◌%◌, ◌^◌, ◌<◌, ◌≤◌, Bool, true, false, cond, not, T, eqb, ltb, leb, ◌↔◌, pos, sym, refl, ap, ◌∙◌, subst, inl, inr, le_trans, le_of_eq, lt_of_lt_of_le, le_of_suc-le-suc, le_of_lt, lt_irrefl as ℕ-lt-irrefl, mul-le-mul_right, mul_assoc, eq-or-lt_of_le, mul-le-mul_left, mul-lt-mul_of_pos_right, lt_of_not-le, mul-one, not-le_of_lt, arith, le→leb, ltb→lt, lt→ltb, leb→le, nltb→le, pow_pos, pow_mono, leb-false}
use native.Mathlib.Nat.{pow-succ'}
use lib.Dec.{nleb→lt}
use lib.Ieee.{Float, nan, inf, fin, binary32, odd, of_fields, of_bits, to_bits, fits, le, lt}
use lib.Ieee.Bits.{of_bits-to_bits, to_bits-lt}
use lib.Ieee.Exact.{HasValue, odd_sign}
use Rattle.bits.specs.Finite.{finite}
use Rattle.bits.specs.Key.{turned, key}
use Rattle.bits.proofs.Signed.{Leq}
use Rattle.bits.proofs.Tests.{number-bits}
use Rattle.bits.proofs.Compare.{number, number_is, plus, units-le, bottom, highest, le_refl, lt_not_le, lt_of_not_ge}

-- ---- what number a pattern stands for, in units of 2 ^ -149
abbrev fields_val : ℕ → ℕ → ℕ
fields_val zero t = t
fields_val (suc x) t = (8388608 + t) * 2 ^ x

abbrev val : ℕ → ℕ
val b = fields_val (b / 8388608) (b % 8388608)

fields-is : (s : Bool) (x t : ℕ) → T (finite (of_fields binary32 s x t)) → HasValue (of_fields binary32 s x t) s (fields_val x t) (2 ^ 149)
unfolding of_fields finite
fields-is s zero t h = subst (λ (z : ℕ). HasValue (odd 24 s t 0 149) s z (2 ^ 149)) (mul-one t) (odd_sign 24 s t 0 149)
fields-is s (suc x) t h = go (eqb (suc x) 255) (eqb t 0) h
  where
    go : (a b : Bool) → T (finite (cond a (cond b (inf s) nan) (odd 24 s (8388608 + t) x 149))) → HasValue (cond a (cond b (inf s) nan) (odd 24 s (8388608 + t) x 149)) s ((8388608 + t) * 2 ^ x) (2 ^ 149)
    go true true k = absurd k
    go true false k = absurd k
    go false b k = odd_sign 24 s (8388608 + t) x 149

same_digits : (b : ℕ) → b % 2147483648 % 8388608 ≡ b % 8388608
same_digits b = omega arith

bits-value : (b : ℕ) → T (finite (of_bits binary32 b)) → HasValue (of_bits binary32 b) (leb 2147483648 b) (val (b % 2147483648)) (2 ^ 149)
unfolding of_bits
bits-value b h =
    subst (λ (z : ℕ). HasValue (of_fields binary32 (leb 2147483648 b) (b % 2147483648 / 8388608) (b % 8388608)) (leb 2147483648 b) (fields_val (b % 2147483648 / 8388608) z) (2 ^ 149)) (sym (same_digits b))
    (fields-is (leb 2147483648 b) (b % 2147483648 / 8388608) (b % 8388608) h)

value_of : (x : Float) → T (fits binary32 x) → T (finite x) → HasValue x (leb 2147483648 (to_bits binary32 x)) (val (to_bits binary32 x % 2147483648)) (2 ^ 149)
value_of x f h =
    let b = to_bits binary32 x in
    subst (λ (z : Float). HasValue z (leb 2147483648 b) (val (b % 2147483648)) (2 ^ 149)) (of_bits-to_bits binary32 x f)
    (bits-value b (subst (λ (z : Float). T (finite z)) (sym (of_bits-to_bits binary32 x f)) h))

-- ---- a larger pattern stands for a larger number
digits-strict : (x t u : ℕ) → t < u → fields_val x t < fields_val x u
digits-strict zero t u h = h
digits-strict (suc x) t u h = mul-lt-mul_of_pos_right (more t u h) (pow_pos x)
  where
    more : (t u : ℕ) → t < u → 8388608 + t < 8388608 + u
    more t u h = omega arith

field-under : (x t : ℕ) → t < 8388608 → fields_val x t < 8388608 * 2 ^ x
field-under zero t h = h
field-under (suc x) t h =
    lt_of_lt_of_le (mul-lt-mul_of_pos_right (twice t h) (pow_pos x)) (le_of_eq (mul_assoc 8388608 2 (2 ^ x) ∙ ap (λ (z : ℕ). 8388608 * z) (sym (pow-succ' 2 x))))
  where
    twice : (t : ℕ) → t < 8388608 → 8388608 + t < 8388608 * 2
    twice t h = omega arith

field-over : (x y t : ℕ) → x < y → 8388608 * 2 ^ x ≤ fields_val y t
field-over x zero t h = absurd (none x h)
  where
    none : (x : ℕ) → x < 0 → ⊥
    none x h = omega arith
field-over x (suc y) t h = le_trans (mul-le-mul_left 8388608 (pow_mono (before x y h))) (mul-le-mul_right (2 ^ y) (once t))
  where
    before : (x y : ℕ) → x < suc y → x ≤ y
    before x y h = omega arith

    once : (t : ℕ) → 8388608 ≤ 8388608 + t
    once t = omega arith

val-strict : (b c : ℕ) → b < c → val b < val c
val-strict b c h = elim (eq-or-lt_of_le (fields_le b c h)) [
  | inl e ↦ subst (λ (x : ℕ). val b < fields_val x (c % 8388608)) e (digits-strict (b / 8388608) (b % 8388608) (c % 8388608) (digits_lt b c h e))
  | inr l ↦ lt_of_lt_of_le (field-under (b / 8388608) (b % 8388608) (few b)) (field-over (b / 8388608) (c / 8388608) (c % 8388608) l)
]
  where
    fields_le : (b c : ℕ) → b < c → b / 8388608 ≤ c / 8388608
    fields_le b c h = omega arith

    digits_lt : (b c : ℕ) → b < c → b / 8388608 ≡ c / 8388608 → b % 8388608 < c % 8388608
    digits_lt b c h e = omega arith

    few : (b : ℕ) → b % 8388608 < 8388608
    few b = omega arith

val_mono : (b c : ℕ) → b ≤ c → val b ≤ val c
val_mono b c h = elim (eq-or-lt_of_le h) [ inl e ↦ le_of_eq (ap val e) | inr l ↦ le_of_lt (val-strict b c l) ]

-- ---- keys in order
turned-is : (b : ℕ) → turned b ≡ cond (leb 2147483648 b) (4294967295 - b) (2147483648 + b)
turned-is b = go (ltb b 2147483648) (leb 2147483648 b) (ltb→lt b 2147483648) (nltb→le b 2147483648) (leb→le 2147483648 b) (nleb→lt 2147483648 b)
  where
    no : b < 2147483648 → 2147483648 ≤ b → ⊥
    no h k = omega arith

    go : (u s : Bool) → (T u → b < 2147483648) → (T (not u) → 2147483648 ≤ b) → (T s → 2147483648 ≤ b) → (T (not s) → b < 2147483648) → cond u (2147483648 + b) (4294967295 - b) ≡ cond s (4294967295 - b) (2147483648 + b)
    go true true a b c d = absurd (no (a tt) (c tt))
    go true false a b c d = refl
    go false true a b c d = refl
    go false false a b c d = absurd (no (d tt) (b tt))

signed : (b c : ℕ) → b < 4294967296 → c < 4294967296 → turned b ≤ turned c → Leq (leb 2147483648 b) (val (b % 2147483648)) (leb 2147483648 c) (val (c % 2147483648))
signed b c B C = rw (turned-is b, turned-is c) (go (leb 2147483648 b) (leb 2147483648 c) (leb→le 2147483648 b) (nleb→lt 2147483648 b) (leb→le 2147483648 c) (nleb→lt 2147483648 c))
  where
    up_le : (b c : ℕ) → b < 2147483648 → c < 2147483648 → 2147483648 + b ≤ 2147483648 + c → b % 2147483648 ≤ c % 2147483648
    up_le b c k l h = omega arith

    down_le : (b c : ℕ) → b < 4294967296 → c < 4294967296 → 2147483648 ≤ b → 2147483648 ≤ c → 4294967295 - b ≤ 4294967295 - c → c % 2147483648 ≤ b % 2147483648
    down_le b c B C k l h = omega arith

    cross : (b c : ℕ) → 2147483648 ≤ c → 2147483648 + b ≤ 4294967295 - c → ⊥
    cross b c l h = omega arith

    go : (s t : Bool) → (T s → 2147483648 ≤ b) → (T (not s) → b < 2147483648) → (T t → 2147483648 ≤ c) → (T (not t) → c < 2147483648)
        → cond s (4294967295 - b) (2147483648 + b) ≤ cond t (4294967295 - c) (2147483648 + c) → Leq s (val (b % 2147483648)) t (val (c % 2147483648))
    go false false k k' l l' h = val_mono (b % 2147483648) (c % 2147483648) (up_le b c (k' tt) (l' tt) h)
    go false true k k' l l' h = absurd (cross b c (l tt) h)
    go true false k k' l l' h = tt
    go true true k k' l l' h = val_mono (c % 2147483648) (b % 2147483648) (down_le b c B C (k tt) (l tt) h)

-- ---- no number has a key above or below those of the infinities
bits-top : (b : ℕ) → b % 2147483648 ≤ 2139095040 → 4286578688 ≤ turned b → b ≡ 2139095040
bits-top b h = go (ltb b 2147483648) (ltb→lt b 2147483648) (nltb→le b 2147483648)
  where
    up-only : b < 2147483648 → 4286578688 ≤ 2147483648 + b → b ≡ 2139095040
    up-only l k = omega arith

    no : 2147483648 ≤ b → 4286578688 ≤ 4294967295 - b → ⊥
    no l k = omega arith

    go : (u : Bool) → (T u → b < 2147483648) → (T (not u) → 2147483648 ≤ b) → 4286578688 ≤ cond u (2147483648 + b) (4294967295 - b) → b ≡ 2139095040
    go true l m k = up-only (l tt) k
    go false l m k = absurd (no (m tt) k)

bits-bottom : (b : ℕ) → b < 4294967296 → b % 2147483648 ≤ 2139095040 → turned b ≤ 8388607 → b ≡ 4286578688
bits-bottom b B h = go (ltb b 2147483648)
  where
    no : 2147483648 + b ≤ 8388607 → ⊥
    no k = omega arith

    down-only : 4294967295 - b ≤ 8388607 → b ≡ 4286578688
    down-only k = omega arith

    go : (u : Bool) → cond u (2147483648 + b) (4294967295 - b) ≤ 8388607 → b ≡ 4286578688
    go true k = absurd (no k)
    go false k = down-only k

-- a value by its pattern
from_bits : (x : Float) (b : ℕ) → T (fits binary32 x) → to_bits binary32 x ≡ b → x ≡ of_bits binary32 b
from_bits x b f e = sym (of_bits-to_bits binary32 x f) ∙ ap (λ (z : ℕ). of_bits binary32 z) e

key-top : (x : Float) → T (fits binary32 x) → T (number x) → key (inf false) ≤ key x → x ≡ inf false
unfolding key to_bits of_bits
key-top x f n h = from_bits x 2139095040 f (bits-top (to_bits binary32 x) (number-bits binary32 x f (rw number_is at n)) h)

key-bottom : (x : Float) → T (fits binary32 x) → T (number x) → key x ≤ key (inf true) → x ≡ inf true
unfolding key to_bits of_bits
key-bottom x f n h = from_bits x 4286578688 f (bits-bottom (to_bits binary32 x) (to_bits-lt binary32 x f) (number-bits binary32 x f (rw number_is at n)) h)

turned-inj : (b c : ℕ) → b < 4294967296 → c < 4294967296 → turned b ≡ turned c → b ≡ c
turned-inj b c B C = rw (turned-is b, turned-is c) (go (leb 2147483648 b) (leb 2147483648 c) (leb→le 2147483648 b) (leb→le 2147483648 c))
  where
    down-eq : 4294967295 - b ≡ 4294967295 - c → b ≡ c
    down-eq h = omega arith

    up-eq : 2147483648 + b ≡ 2147483648 + c → b ≡ c
    up-eq h = omega arith

    cross-r : 2147483648 ≤ b → 4294967295 - b ≡ 2147483648 + c → b ≡ c
    cross-r k h = omega arith

    cross-l : 2147483648 ≤ c → 2147483648 + b ≡ 4294967295 - c → b ≡ c
    cross-l k h = omega arith

    go : (s t : Bool) → (T s → 2147483648 ≤ b) → (T t → 2147483648 ≤ c) → cond s (4294967295 - b) (2147483648 + b) ≡ cond t (4294967295 - c) (2147483648 + c) → b ≡ c
    go false false k l h = up-eq h
    go false true k l h = cross-l (l tt) h
    go true false k l h = cross-r (k tt) h
    go true true k l h = down-eq h

-- ---- the laws
-- a key fits 32 bits
pub key_below : (x : Float) → T (fits binary32 x) → key x < 4294967296
unfolding key
key_below x f = rw (turned-is (to_bits binary32 x)) (go (leb 2147483648 (to_bits binary32 x)) (nleb→lt 2147483648 (to_bits binary32 x)))
  where
    less : (b : ℕ) → 4294967295 - b < 4294967296
    less b = omega arith

    more : (b : ℕ) → b < 2147483648 → 2147483648 + b < 4294967296
    more b h = omega arith

    go : (s : Bool) → (T (not s) → to_bits binary32 x < 2147483648) → cond s (4294967295 - to_bits binary32 x) (2147483648 + to_bits binary32 x) < 4294967296
    go true h = less (to_bits binary32 x)
    go false h = more (to_bits binary32 x) (h tt)

-- of two numbers the one of lower key is `le`
pub key-le : (x y : Float) → T (fits binary32 x) → T (fits binary32 y) → T (number x) → T (number y) → key x ≤ key y → T (le x y)
unfolding key finite
key-le nan y f g p q h = absurd p
key-le (inf true) y f g p q h = bottom y q
key-le (inf false) y f g p q h = subst (λ (z : Float). T (le (inf false) z)) (sym (key-top y g q h)) (le_refl (inf false) tt)
key-le (fin s m e) nan f g p q h = absurd q
key-le (fin s m e) (inf true) f g p q h = subst (λ (z : Float). T (le z (inf true))) (sym (key-bottom (fin s m e) f p h)) (le_refl (inf true) tt)
key-le (fin s m e) (inf false) f g p q h = highest (fin s m e) tt
key-le (fin s m e) (fin t n d) f g p q h =
    let x = fin s m e in
    let y = fin t n d in
    let b = to_bits binary32 x in
    let c = to_bits binary32 y in
    (units-le x y (leb 2147483648 b) (leb 2147483648 c) (val (b % 2147483648)) (val (c % 2147483648)) (2 ^ 149) (pow_pos 149) (value_of x f tt) (value_of y g tt)).1
    (signed b c (to_bits-lt binary32 x f) (to_bits-lt binary32 y g) h)

-- values of one key are the same, NaN being one value
pub key-inj : (x y : Float) → T (fits binary32 x) → T (fits binary32 y) → key x ≡ key y → x ≡ y
unfolding key
key-inj x y f g h =
    from_bits x (to_bits binary32 y) f (turned-inj (to_bits binary32 x) (to_bits binary32 y) (to_bits-lt binary32 x f) (to_bits-lt binary32 y g) h)
    ∙ of_bits-to_bits binary32 y g

-- ---- values whose sign is clear
-- a lower key is strictly below
key-strict : (x y : Float) → T (fits binary32 x) → T (fits binary32 y) → T (plus x) → T (plus y) → T (number x) → T (number y) → key x < key y → T (lt x y)
unfolding key finite lt
key-strict nan y f g u v p q h = absurd p
key-strict (inf true) y f g u v p q h = absurd u
key-strict (inf false) y f g u v p q h = absurd (ℕ-lt-irrefl (key (inf false)) (subst (λ (z : Float). key (inf false) < key z) (key-top y g q (le_of_lt h)) h))
key-strict (fin true m e) y f g u v p q h = absurd u
key-strict (fin false m e) nan f g u v p q h = absurd q
key-strict (fin false m e) (inf true) f g u v p q h = absurd v
key-strict (fin false m e) (inf false) f g u v p q h = tt
key-strict (fin false m e) (fin true n d) f g u v p q h = absurd v
key-strict (fin false m e) (fin false n d) f g u v p q h =
    let x = fin false m e in
    let y = fin false n d in
    let b = to_bits binary32 x in
    let c = to_bits binary32 y in
    let i = value_of x f tt in
    let j = value_of y g tt in
    let l : b % 2147483648 < c % 2147483648 = plain b c (sym i.0) (sym j.0) h in
    lt_of_not_ge x y tt tt
    (λ (k : T (le y x)). not-le_of_lt (val-strict (b % 2147483648) (c % 2147483648) l)
    ((units-le y x false false (val (c % 2147483648)) (val (b % 2147483648)) (2 ^ 149) (pow_pos 149) (refl, j.1) (refl, i.1)).0 k))
  where
    plain : (b c : ℕ) → leb 2147483648 b ≡ false → leb 2147483648 c ≡ false → turned b < turned c → b % 2147483648 < c % 2147483648
    plain b c i j h = less b c (leb-false 2147483648 b i) (leb-false 2147483648 c j) (rw (turned-is b, turned-is c, i, j) at h)
      where
        less : (b c : ℕ) → b < 2147483648 → c < 2147483648 → 2147483648 + b < 2147483648 + c → b % 2147483648 < c % 2147483648
        less b c k l h = omega arith

-- of two numbers with the sign clear, `lt` is `<` of the keys
pub key-lt : (x y : Float) → T (fits binary32 x) → T (fits binary32 y) → T (plus x) → T (plus y) → T (number x) → T (number y) → T (lt x y) ↔ (key x < key y)
key-lt x y f g u v p q = (
  λ h. lt_of_not-le (λ (k : key y ≤ key x). lt_not_le x y h (key-le y x g f q p k)),
  key-strict x y f g u v p q,
)

-- and `le` is `≤`
pub key-le-iff : (x y : Float) → T (fits binary32 x) → T (fits binary32 y) → T (plus x) → T (plus y) → T (number x) → T (number y) → T (le x y) ↔ (key x ≤ key y)
key-le-iff x y f g u v p q = (
  λ h. le_of_suc-le-suc (lt_of_not-le (λ (k : key y < key x). lt_not_le y x (key-strict y x g f v u q p k) h)),
  key-le x y f g p q,
)

-- the same as equations of tests
same_test : (a b : Bool) → (T a → T b) → (T b → T a) → a ≡ b
same_test true true h k = refl
same_test true false h k = absurd (h tt)
same_test false true h k = absurd (k tt)
same_test false false h k = refl

pub key-ltb : (x y : Float) → T (fits binary32 x) → T (fits binary32 y) → T (plus x) → T (plus y) → T (number x) → T (number y) → lt x y ≡ ltb (key x) (key y)
key-ltb x y f g u v p q =
    let i = key-lt x y f g u v p q in
    same_test (lt x y) (ltb (key x) (key y)) (λ (h : T (lt x y)). lt→ltb (key x) (key y) (i.0 h)) (λ (h : T (ltb (key x) (key y))). i.1 (ltb→lt (key x) (key y) h))

pub key-leb : (x y : Float) → T (fits binary32 x) → T (fits binary32 y) → T (plus x) → T (plus y) → T (number x) → T (number y) → le x y ≡ leb (key x) (key y)
key-leb x y f g u v p q =
    let i = key-le-iff x y f g u v p q in
    same_test (le x y) (leb (key x) (key y)) (λ (h : T (le x y)). le→leb (key x) (key y) (i.0 h)) (λ (h : T (leb (key x) (key y))). i.1 (leb→le (key x) (key y) h))

-- ---- the keys of -infinity, -1, -0, +0, 1, infinity and NaN: -0 comes just before +0
keys : (key (inf true) ≡ 8388607) × (key (fin true 1 (pos 0)) ≡ 1082130431) × (key (fin true 0 (pos 0)) ≡ 2147483647) × (key (fin false 0 (pos 0)) ≡ 2147483648) × (key (fin false 1 (pos 0)) ≡ 3212836864) × (key (inf false) ≡ 4286578688) × (key nan ≡ 4290772992)
unfolding key to_bits
keys = (refl, refl, refl, refl, refl, refl, refl)
