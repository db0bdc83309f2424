-- `root f x` is the square root of x, correctly rounded to the format f: `root-rooted` says so by squares of whole numbers alone.
-- Assumes nothing.
use Rattle.std.proofs.Common.{◌≡◌, ℕ, zero, suc, ◌+◌, ◌-◌, ◌*◌, ◌/◌, ◌%◌, ◌^◌, ◌<◌, ◌≤◌, true, false, cond, ◌&&◌, T, eqb, ltb, leb, ℤ, pos, negsuc, sym, refl, ap, ◌∙◌, subst, ap₂, inl, inr, le_trans, le_of_eq, lt_of_lt_of_le, lt_of_le_of_lt, mul-le-mul_right, zero-lt-suc, mul_assoc, lt-suc_self, eq-zero-or-pos, lt_of_mul-lt-mul_right, mul-lt-mul_of_pos_right, one-mul, lt_of_not-le, mul-one, mul_right_comm, not-le_of_lt, le-add_left, arith, lit≤, ltb→lt, leb→le, pow_pos, pow_mono, pow-add, shl_lt}
use native.Mathlib.Nat.{mul-mul-mul_comm, eq_of_mul-eq-mul_right}
use lib.Pow.{pow-lt}
use lib.Ieee.{Float, nan, inf, fin, Format, binary32, binary64, prec, emax, low, up, down, size, fits, hid, to_bits, of_bits}
use lib.Ieee.Digits.{size-lt, size-le, size_reaches}
use lib.Ieee.Fits.{two, reach, two-le_pos, down_pos, and_l, and_r, nan-fits, inf-fits, round-fits}
use lib.Ieee.Exact.{HasValue, units_val}
use lib.Ieee.Bits.{of_bits-to_bits}
use Rattle.bits.specs.Root.{whole_root, root}
use Rattle.bits.proofs.WholeRoot.{Whole, sq-lt, whole_root-correct}
use Rattle.bits.proofs.RootNearest.{Nearest, root-of-nearest, bits_of, nearest-unique}
use Rattle.bits.proofs.RootDigits.{sq-suc, excess, shift, nearest-of-scaled}

-- ---- what `root` writes for the nearest number
module _ (f : Format) (x : Float) (n q k : ℕ) (v : HasValue x false n (2 ^ (low f + low f))) (K : 0 < k) (fit : prec f + k ≤ low f + suc (emax f)) (t : Nearest (prec f) n q k) where
  pub nearest-value : HasValue (root f x) false (q * 2 ^ k) (2 ^ low f)
  nearest-value =
      subst (λ (y : Float). HasValue y false (q * 2 ^ k) (2 ^ low f)) (sym (root-of-nearest f x n q k v (some t.above) K t))
      (units_val f false q k (lt_of_lt_of_le (shl_lt (prec f) k t.no_more) (pow_mono fit)))
    where
      some : {m : ℕ} → m < 4 * n → 0 < n
      some h = omega arith

  pub nearest-bits : to_bits f (root f x) ≡ k * hid f + q
  nearest-bits = bits_of f (root f x) q k nearest-value t.digits t.no_more

pub root-fits : (f : Format) (x : Float) → T (fits f x) → T (fits f (root f x))
unfolding root fits
root-fits f nan h = nan-fits f
root-fits f (inf true) h = nan-fits f
root-fits f (inf false) h = inf-fits f false
root-fits f (fin s zero e) h = h
root-fits f (fin true (suc m) e) h = nan-fits f
root-fits f (fin false (suc m) e) h = round-fits f false _ _

-- ---- a value that fits, in units of the format's smallest
place : (l : ℕ) (e : ℤ) → down e ≤ 2 ^ l → (i : ℕ) × (up e * 2 ^ l ≡ 2 ^ i * down e)
place l (pos a) h = (a + l, sym (pow-add 2 a l) ∙ sym (mul-one (2 ^ (a + l))))
place l (negsuc a) h =
    let le : suc a ≤ l = lt_of_not-le (λ (g : l ≤ a). not-le_of_lt (lt_of_le_of_lt (pow_mono g) (twice a)) h) in
    (l - suc a, one-mul (2 ^ l) ∙ ap (λ (x : ℕ). 2 ^ x) (sym (back l (suc a) le)) ∙ pow-add 2 (l - suc a) (suc a))
  where
    twice : (a : ℕ) → 2 ^ a < 2 ^ suc a
    twice a = pow-lt (lt-suc_self a)

    back : (l a : ℕ) → a ≤ l → l - a + a ≡ l
    back l a h = omega arith

-- m * 2 ^ i units are m * 2 ^ (i + l) squares of the unit
pub in-squares : (x : Float) (m i l : ℕ) → HasValue x false (m * 2 ^ i) (2 ^ l) → HasValue x false (m * 2 ^ (i + l)) (2 ^ (l + l))
in-squares nan m i l v = v
in-squares (inf s) m i l v = v
in-squares (fin s b e) m i l v = (
  v.0,
  ap (λ (y : ℕ). b * up e * y) (pow-add 2 l l)
      ∙ sym (mul_assoc (b * up e) (2 ^ l) (2 ^ l))
      ∙ ap (λ (y : ℕ). y * 2 ^ l) v.1
      ∙ mul_right_comm (m * 2 ^ i) (down e) (2 ^ l)
      ∙ ap (λ (y : ℕ). y * down e) (mul_assoc m (2 ^ i) (2 ^ l) ∙ ap (λ (y : ℕ). m * y) (sym (pow-add 2 i l))),
)

-- of a format this uses that its smallest value lies 2 * prec digits below 1 at least
pub deep : (f : Format) → 2 * prec f ≤ low f
deep binary32 = lit≤ tt
deep binary64 = lit≤ tt

-- ---- the theorem
-- y is the square root of x, correctly rounded to the format f, for an x above zero. In units of the format's smallest value, 2 ^ -low, y is q * 2 ^ k, where q has
-- the prec digits that the format keeps, and x is n squares of that unit. `nearest` says that the square of the half-way point between y and the value above it is
-- above x, and that of the half-way point between y and the value below it is below x, both strictly: so y is nearer to the root than any other value.
-- At a power of two the value below is nearer than 2 ^ k: `at-power` has the half-way point to it, 4 * q - 1 in quarters of 2 ^ k.
pub record Rooted (f : Format) (x y : Float) : Type 0 where
  pub n : ℕ
  pub q : ℕ
  pub k : ℕ
  pub x-is : HasValue x false n (2 ^ (low f + low f))
  pub y-is : HasValue y false (q * 2 ^ k) (2 ^ low f)
  pub held : T (fits f y)
  pub nearest : Nearest (prec f) n q k
  pub at-power : q ≡ 2 ^ (prec f - 1) → (4 * q - 1) * 2 ^ k * ((4 * q - 1) * 2 ^ k) < 16 * n

quarter : (p n q k : ℕ) → Nearest p n q k → q ≡ 2 ^ (p - 1) → (4 * q - 1) * 2 ^ k * ((4 * q - 1) * 2 ^ k) < 16 * n
quarter p n q k t e =
    let h = 2 ^ k in
    let r : q * h * (q * h) ≤ n = subst (λ (b : ℕ). b * h * (b * h) ≤ n) (sym e) t.reached in
    let a : (4 * q - 1) * h < 4 * q * h = mul-lt-mul_of_pos_right (pred q (lt_of_lt_of_le (pow_pos (p - 1)) t.digits)) (pow_pos k) in
    let b : (4 * q - 1) * h * ((4 * q - 1) * h) < 4 * q * h * (4 * q * h) = sq-lt a in
    let c : 4 * q * h * (4 * q * h) ≡ 16 * (q * h * (q * h)) = ap (λ (x : ℕ). x * x) (mul_assoc 4 q h) ∙ mul-mul-mul_comm 4 (q * h) 4 (q * h) in
    omega arith
  where
    pred : (q : ℕ) → 0 < q → 4 * q - 1 < 4 * q
    pred q h = omega arith

-- the remainder of a whole root
rest : (n s : ℕ) → Whole n s → (s * s + (n - s * s) ≡ n) × (n - s * s ≤ 2 * s)
rest n s w = go w.within w.beyond (sq-suc s)
  where
    go : s * s ≤ n → n < suc s * suc s → suc s * suc s ≡ s * s + s + s + 1 → (s * s + (n - s * s) ≡ n) × (n - s * s ≤ 2 * s)
    go a b c = omega arith

low-digits : (z : ℕ) → 0 < z → suc (z - 1) ≡ z
low-digits z h = omega arith

-- the number of digits that a significand takes, all told
reaches : (j i l e : ℕ) → 2 ^ (j + i) < 2 ^ (e + l) → j + i < e + l
reaches j i l e h = lt_of_not-le (λ (g : e + l ≤ j + i). not-le_of_lt h (pow_mono g))

half_pos : (p a j : ℕ) → 2 * p ≤ a → 0 < excess p a j / 2
half_pos p a j h = omega arith

in_reach : (p i l j e : ℕ) → 2 * p ≤ l → suc j ≤ p → j + i < suc e + l → p + excess p (i + l) j / 2 ≤ l + suc e
in_reach p i l j e a b c = omega arith

rooted : (f : Format) (m : ℕ) (e : ℤ) → T (fits f (fin false m e)) → 0 < m → m < 2 ^ prec f → down e ≤ 2 ^ low f → m * up e < 2 ^ suc (emax f) * down e → Rooted f (fin false m e) (root f (fin false m e))
rooted f m e fitting M few deep-enough bounded =
    let x = fin false m e in
    let p = prec f in
    let l = low f in
    let at = place l e deep-enough in
    let i = at.0 in
    let a = i + l in
    let j = size m - 1 in
    let z : suc j ≡ size m = low-digits (size m) (size-pos m M) in
    let lo : 2 ^ j ≤ m = size_reaches m j (le_of_eq z) in
    let hi : m < 2 ^ suc j = subst (λ (y : ℕ). m < 2 ^ y) (sym z) (size-lt m) in
    let fit : suc j ≤ p = le_trans (le_of_eq z) (size-le m p few) in
    let v : m * up e * 2 ^ l ≡ m * 2 ^ i * down e = mul_assoc m (up e) (2 ^ l) ∙ ap (λ (y : ℕ). m * y) at.1 ∙ sym (mul_assoc m (2 ^ i) (down e)) in
    let m-lt : m * 2 ^ i < 2 ^ (suc (emax f) + l) =
    lt_of_mul-lt-mul_right (down e)
    (subst (λ (y : ℕ). y < 2 ^ (suc (emax f) + l) * down e) v
    (subst (λ (y : ℕ). m * up e * 2 ^ l < y) (mul_right_comm (2 ^ suc (emax f)) (down e) (2 ^ l) ∙ ap (λ (y : ℕ). y * down e) (sym (pow-add 2 (suc (emax f)) l))) (mul-lt-mul_of_pos_right bounded (pow_pos l)))) in
    let r : j + i < suc (emax f) + l = reaches j i l (suc (emax f)) (lt_of_le_of_lt (le_trans (le_of_eq (pow-add 2 j i)) (mul-le-mul_right (2 ^ i) lo)) m-lt) in
    let b = m * 2 ^ shift p a j in
    let t = whole_root b in
    let w = rest b t (whole_root-correct b) in
    let q = cond (ltb t (b - t * t)) (suc t) t in
    let k = excess p a j / 2 in
    let room : 2 * p ≤ a = le_trans (deep f) (le-add_left l i) in
    let g : Nearest p (m * 2 ^ a) q k = nearest-of-scaled p m a j lo hi fit room t (b - t * t) w.0 w.1 in
    let u : HasValue x false (m * 2 ^ a) (2 ^ (l + l)) = in-squares x m i l (refl, v) in
    record {
      n = m * 2 ^ a;
      q = q;
      k = k;
      x-is = u;
      y-is = nearest-value f x (m * 2 ^ a) q k u (half_pos p a j room) (in_reach p i l j (emax f) (deep f) fit r) g;
      held = root-fits f x fitting;
      nearest = g;
      at-power = quarter p (m * 2 ^ a) q k g;
    }
  where
    size-pos : (m : ℕ) → 0 < m → 0 < size m
    size-pos m h = elim (eq-zero-or-pos (size m)) [ inl z ↦ absurd (no m h (subst (λ (y : ℕ). m < 2 ^ y) z (size-lt m))) | inr p ↦ p ]
      where
        no : (m : ℕ) → 0 < m → m < 1 → ⊥
        no m h k = omega arith

pub root-rooted : (f : Format) (m : ℕ) (e : ℤ) → T (fits f (fin false (suc m) e)) → Rooted f (fin false (suc m) e) (root f (fin false (suc m) e))
unfolding fits
root-rooted f m e h =
    let A = eqb (suc m % 2) 1 in
    let B = ltb (suc m) (2 ^ prec f) in
    let C = leb (down e) (2 ^ low f) in
    let D = ltb (suc m * up e) (2 ^ suc (emax f) * down e) in
    rooted f (suc m) e h (zero-lt-suc m)
    (ltb→lt (suc m) (2 ^ prec f) (and_r A B (and_l (A && B) C (and_l (A && B && C) D h))))
    (leb→le (down e) (2 ^ low f) (and_r (A && B) C (and_l (A && B && C) D h)))
    (ltb→lt (suc m * up e) (2 ^ suc (emax f) * down e) (and_r (A && B && C) D h))

-- no other value is: what `Rooted` says determines the value
pub rooted-unique : (f : Format) (m : ℕ) (e : ℤ) (y : Float) → T (fits f (fin false (suc m) e)) → Rooted f (fin false (suc m) e) y → y ≡ root f (fin false (suc m) e)
rooted-unique f m e y h a =
    let z = root f (fin false (suc m) e) in
    let b = root-rooted f m e h in
    let n-is : b.n ≡ a.n = eq_of_mul-eq-mul_right (down e) (down_pos e) b.n a.n (sym b.x-is.1 ∙ a.x-is.1) in
    let u = nearest-unique (prec f) a.n a.q a.k b.q b.k (two-le_pos (prec f) (two f)) a.nearest (subst (λ (n : ℕ). Nearest (prec f) n b.q b.k) n-is b.nearest) in
    let bits : to_bits f y ≡ to_bits f z =
    bits_of f y a.q a.k a.y-is a.nearest.digits a.nearest.no_more
    ∙ ap₂ (λ (k q : ℕ). k * hid f + q) u.1 u.0
    ∙ sym (bits_of f z b.q b.k b.y-is b.nearest.digits b.nearest.no_more) in
    sym (of_bits-to_bits f y a.held) ∙ ap (of_bits f) bits ∙ of_bits-to_bits f z b.held

-- ---- the same from a significand m with suc j digits, and the whole root t of m scaled with its remainder r: what the code computes
in-reach-by : (p a j l e : ℕ) → suc j ≤ p → 2 * p ≤ a → p ≤ suc e → a ≤ 2 * l + e → p + excess p a j / 2 ≤ l + suc e
in-reach-by p a j l e h k r b = omega arith

pub scaled-bits : (f : Format) (x : Float) (m a j t r : ℕ) → HasValue x false (m * 2 ^ a) (2 ^ (low f + low f)) → 2 ^ j ≤ m → m < 2 ^ suc j → suc j ≤ prec f → 2 * prec f ≤ a → a ≤ 2 * low f + emax f
    → t * t + r ≡ m * 2 ^ shift (prec f) a j → r ≤ 2 * t → to_bits f (root f x) ≡ excess (prec f) a j / 2 * hid f + cond (ltb t r) (suc t) t
scaled-bits f x m a j t r v lo hi fit room bound whole small =
    nearest-bits f x (m * 2 ^ a) (cond (ltb t r) (suc t) t) (excess (prec f) a j / 2) v (half_pos (prec f) a j room) (in-reach-by (prec f) a j (low f) (emax f) fit room (reach f) bound)
    (nearest-of-scaled (prec f) m a j lo hi fit room t r whole small)
