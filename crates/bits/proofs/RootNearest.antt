-- Which number of p digits is nearest to a square root, by squares alone (`Nearest`), and that `root` gives it (`root-of-nearest`).
-- Assumes nothing.
use Rattle.std.proofs.Common.{◌≡◌, ℕ, zero, suc, ◌+◌, ◌-◌, ◌*◌, ◌/◌, ◌%◌, ◌^◌, ◌<◌, ◌≤◌, Bool, true, false, cond, not, T, eqb, leb, ◌⊎◌, ℤ, sym, refl, ap, ◌∙◌, subst, inl, inr, true≢false, lt_trans, le_of_eq, lt_of_lt_of_le, le_of_suc-le-suc, lt_of_le_of_lt, lt_irrefl, mul_assoc, suc-mul, add-mul, le_antisymm, lt_of_mul-lt-mul_right, eq-or-lt_of_le, mul-lt-mul_of_pos_right, mul-pos, lt_of_not-le, zero-add, zero-mul, mul-add, not-le_of_lt, mul-div_cancel, mul_left_comm, two-mul, arith, eqb→eq, leb→le, pow_pos, pow_mono, pow-add}
use Prim.Native.Nat.{compare, Ordering}
use native.Mathlib.Nat.{lt_of_mul-lt-mul_left, mul-div-mul_right, pow-succ', two-pow-succ}
use lib.Dec.{is_le, compare_is_eq, nleb→lt}
use lib.Arith.{digits_div, digits_mod}
use lib.Ieee.{Float, nan, inf, fin, Format, prec, low, up, down, size, nearest, units, round, hid, to_bits}
use lib.Ieee.Digits.{size-lt, size-le}
use lib.Ieee.Fits.{two, two-le_pos, down_pos, round_is}
use lib.Ieee.Exact.{HasValue}
use lib.Ieee.Nearest.{closest, closest_same}
use Rattle.bits.specs.Root.{whole_root, root}
use Rattle.bits.proofs.Pattern.{bits_of_value}
use Rattle.bits.proofs.WholeRoot.{Whole, sq-lt, sq-lt-back, whole_root-correct}

-- Of the numbers q * 2 ^ k whose q has p digits this one is nearest to the square root of n. In halves, the half-way points between it and
-- its two neighbours are (2 * q - 1) * 2 ^ k and (2 * q + 1) * 2 ^ k, and the root of n is that of 4 * n: it lies above the one and below the other, never on it.
-- The root's first digit stands where q's does, so for the least q the root is not below it, and the nearer neighbour there does not come in question.
pub record Nearest (p n q k : ℕ) : Type 0 where
  pub digits : 2 ^ (p - 1) ≤ q
  pub no_more : q < 2 ^ p
  pub above : (2 * q - 1) * 2 ^ k * ((2 * q - 1) * 2 ^ k) < 4 * n
  pub below : 4 * n < (2 * q + 1) * 2 ^ k * ((2 * q + 1) * 2 ^ k)
  pub reached : 2 ^ (p - 1) * 2 ^ k * (2 ^ (p - 1) * 2 ^ k) ≤ n

-- ---- s + s, and one more where the root is above s, lies on the root's side of every even number
twice-below : (n s u : ℕ) → Whole n s → u * u < n → u + u < s + s + cond (eqb (s * s) n) 0 1
twice-below n s u w h = go (eqb (s * s) n) (eqb→eq (s * s) n) (eq-or-lt_of_le (le_of_suc-le-suc (sq-lt-back {a = u} {b = suc s} (lt_trans h w.beyond))))
  where
    go : (b : Bool) → (T b → s * s ≡ n) → (u ≡ s) ⊎ (u < s) → u + u < s + s + cond b 0 1
    go true e (inl i) = absurd (lt_irrefl n (subst (λ (x : ℕ). x < n) (ap (λ (x : ℕ). x * x) i ∙ e tt) h))
    go false e (inl i) = omega arith
    go true e (inr l) = omega arith
    go false e (inr l) = omega arith

twice-above : (n s v : ℕ) → Whole n s → n < v * v → s + s + cond (eqb (s * s) n) 0 1 < v + v
twice-above n s v w h = go (eqb (s * s) n) (sq-lt-back {a = s} {b = v} (lt_of_le_of_lt w.within h))
  where
    go : (b : Bool) → s < v → s + s + cond b 0 1 < v + v
    go true l = omega arith
    go false l = omega arith

half_is : (n s : ℕ) → (s + s + cond (eqb (s * s) n) 0 1) / 2 ≡ s
half_is n s = go (eqb (s * s) n)
  where
    go : (b : Bool) → (s + s + cond b 0 1) / 2 ≡ s
    go true = omega arith
    go false = omega arith

-- ---- the whole number nearest to a / (h + h)
compare-lt : (a b : ℕ) → a < b → compare a b ≡ Ordering.lt
compare-lt a b h = go (compare a b) (nleb→lt a b) (eqb→eq a b)
  where
    go : (o : Ordering) → (T (not (is_le o)) → b < a) → (T (compare_is_eq o) → a ≡ b) → o ≡ Ordering.lt
    go Ordering.lt g e = refl
    go Ordering.eq g e = let z : a ≡ b = e tt in absurd (omega arith)
    go Ordering.gt g e = let z : b < a = g tt in absurd (omega arith)

compare-gt : (a b : ℕ) → b < a → compare a b ≡ Ordering.gt
compare-gt a b h = go (compare a b) (leb→le a b)
  where
    go : (o : Ordering) → (T (is_le o) → a ≤ b) → o ≡ Ordering.gt
    go Ordering.lt g = let z : a ≤ b = g tt in absurd (omega arith)
    go Ordering.eq g = let z : a ≤ b = g tt in absurd (omega arith)
    go Ordering.gt g = refl

down_to : (h q r : ℕ) → r < h → closest (q * (h + h) + r) (h + h) ≡ q
down_to h q r l =
    let small : r < h + h = omega arith in
    ap (λ (x : ℕ). nearest x (compare ((q * (h + h) + r) % (h + h) * 2) (h + h))) (digits_div q small)
    ∙ ap (λ (x : ℕ). nearest q (compare (x * 2) (h + h))) (digits_mod q small)
    ∙ ap (nearest q) (compare-lt (r * 2) (h + h) (omega arith))

up_to : (h q r : ℕ) → h < r → r < h + h → closest (q * (h + h) + r) (h + h) ≡ suc q
up_to h q r l small =
    ap (λ (x : ℕ). nearest x (compare ((q * (h + h) + r) % (h + h) * 2) (h + h))) (digits_div q small)
    ∙ ap (λ (x : ℕ). nearest q (compare (x * 2) (h + h))) (digits_mod q small)
    ∙ ap (nearest q) (compare-gt (r * 2) (h + h) (omega arith))

closest-is : (a h q : ℕ) → q * (h + h) < a + h → a < q * (h + h) + h → closest a (h + h) ≡ q
closest-is a h q l g = go (leb (q * (h + h)) a) (leb→le (q * (h + h)) a) (nleb→lt (q * (h + h)) a)
  where
    lower : (q : ℕ) → q * (h + h) < a + h → a < q * (h + h) → closest a (h + h) ≡ q
    lower zero l k = let z : a < 0 = subst (λ (x : ℕ). a < x) (zero-mul (h + h)) k in absurd (omega arith)
    lower (suc q) l k =
        let s : suc q * (h + h) ≡ q * (h + h) + (h + h) = suc-mul q (h + h) in
        let e : a ≡ q * (h + h) + (a - q * (h + h)) = omega arith in
        ap (λ (x : ℕ). closest x (h + h)) e ∙ up_to h q (a - q * (h + h)) (omega arith) (omega arith)

    go : (b : Bool) → (T b → q * (h + h) ≤ a) → (T (not b) → a < q * (h + h)) → closest a (h + h) ≡ q
    go true y n =
        let z : q * (h + h) ≤ a = y tt in
        let e : a ≡ q * (h + h) + (a - q * (h + h)) = omega arith in
        ap (λ (x : ℕ). closest x (h + h)) e ∙ down_to h q (a - q * (h + h)) (omega arith)
    go false y n = lower q l (n tt)

-- ---- how many digits a number has
pub size_is : (j n : ℕ) → 2 ^ j ≤ n → n < 2 ^ suc j → size n ≡ suc j
size_is j n lo hi = le_antisymm (size-le n (suc j) hi) (lt_of_not-le (λ (g : size n ≤ j). not-le_of_lt (lt_of_lt_of_le (size-lt n) (pow_mono g)) lo))

-- ---- half-way points in halves of h, and in units of g = h / 2
four : (u : ℕ) → (u + u) * (u + u) ≡ 4 * (u * u)
four u =
    let a : (u + u) * (u + u) ≡ u * (u + u) + u * (u + u) = add-mul u u (u + u) in
    let b : u * (u + u) ≡ u * u + u * u = mul-add u u u in
    omega arith

halved : (c g h : ℕ) → h ≡ g + g → c * h * (c * h) ≡ 4 * (c * g * (c * g))
halved c g h e = ap (λ (x : ℕ). c * x * (c * x)) e ∙ ap (λ (x : ℕ). x * x) (mul-add c g g) ∙ four (c * g)

lower-point : (q h : ℕ) → 0 < q → (2 * q - 1) * h + h ≡ q * (h + h)
lower-point q h p =
    let a : (2 * q - 1 + 1) * h ≡ (2 * q - 1) * h + 1 * h = add-mul (2 * q - 1) 1 h in
    let b : 2 * q - 1 + 1 ≡ 2 * q = omega arith in
    let c : (2 * q - 1 + 1) * h ≡ 2 * (q * h) = ap (λ (x : ℕ). x * h) b ∙ mul_assoc 2 q h in
    let d : q * (h + h) ≡ q * h + q * h = mul-add q h h in
    omega arith

upper-point : (q h : ℕ) → (2 * q + 1) * h ≡ q * (h + h) + h
upper-point q h =
    let a : (2 * q + 1) * h ≡ 2 * q * h + 1 * h = add-mul (2 * q) 1 h in
    let b : 2 * q * h ≡ 2 * (q * h) = mul_assoc 2 q h in
    let d : q * (h + h) ≡ q * h + q * h = mul-add q h h in
    omega arith

-- ---- `round` of s + s, and one more where the root is above s, in half units
half-units : (a l k : ℕ) → closest (a * 2 ^ l) (2 ^ suc l * 2 ^ k) ≡ closest a (2 ^ k + 2 ^ k)
half-units a l k =
    let h = 2 ^ k in
    closest_same (a * 2 ^ l) (2 ^ suc l * h) a (h + h) (mul-pos (pow_pos (suc l)) (pow_pos k)) (subst (λ (x : ℕ). 0 < x) (two-pow-succ k) (pow_pos (suc k)))
    (mul_assoc a (2 ^ l) (h + h)
    ∙ ap (λ (x : ℕ). a * x)
    (ap (λ (x : ℕ). 2 ^ l * x) (sym (two-pow-succ k) ∙ pow-succ' 2 k) ∙ mul_left_comm (2 ^ l) 2 h ∙ sym (mul_assoc 2 (2 ^ l) h) ∙ ap (λ (x : ℕ). x * h) (sym (pow-succ' 2 l))))

kept-units : (f : Format) (a k : ℕ) → size (a / 2) - prec f ≡ k → round f false a (2 ^ suc (low f)) ≡ units f false (closest a (2 ^ k + 2 ^ k)) k
kept-units f a k e =
    let l = low f in
    let d : size (a * 2 ^ l / 2 ^ suc l) - prec f ≡ k = ap (λ (x : ℕ). size x - prec f) (ap (λ (x : ℕ). a * 2 ^ l / x) (pow-succ' 2 l) ∙ mul-div-mul_right a 2 (pow_pos l)) ∙ e in
    round_is f false a (2 ^ suc l)
    ∙ ap (λ (x : ℕ). units f false (closest (a * 2 ^ l) (2 ^ suc l * 2 ^ x)) x) d
    ∙ ap (λ (x : ℕ). units f false x k) (half-units a l k)

drops : (p k z : ℕ) → 0 < p → z ≡ suc (p - 1 + k) → z - p ≡ k
drops p k z h e = omega arith

all_told : (p k : ℕ) → 0 < p → p + k ≡ suc (p - 1 + k)
all_told p k h = omega arith

-- the root lies below 2 ^ (p + k), so its whole part has p + k digits
not-reached : (p n q k : ℕ) → Nearest p n q k → n < 2 ^ p * 2 ^ k * (2 ^ p * 2 ^ k)
not-reached p n q k t =
    let h = 2 ^ k in
    let b = 2 ^ p * h in
    let hi : (2 * q + 1) * h < b + b = lt_of_lt_of_le (mul-lt-mul_of_pos_right (odd-under q (2 ^ p) t.no_more) (pow_pos k)) (le_of_eq (mul_assoc 2 (2 ^ p) h ∙ two-mul b)) in
    lt_of_mul-lt-mul_left 4 (subst (λ (x : ℕ). 4 * n < x) (four b) (lt_trans t.below (sq-lt hi)))
  where
    odd-under : (q b : ℕ) → q < b → 2 * q + 1 < 2 * b
    odd-under q b h = omega arith

whole-size : (p n s q k : ℕ) → 0 < p → Whole n s → Nearest p n q k → size s ≡ suc (p - 1 + k)
whole-size p n s q k P w t =
    let lo : 2 ^ (p - 1) * 2 ^ k < suc s = sq-lt-back {a = 2 ^ (p - 1) * 2 ^ k} {b = suc s} (lt_of_le_of_lt t.reached w.beyond) in
    let hi : s < 2 ^ p * 2 ^ k = sq-lt-back {a = s} {b = 2 ^ p * 2 ^ k} (lt_of_le_of_lt w.within (not-reached p n q k t)) in
    size_is (p - 1 + k) s (subst (λ (x : ℕ). x ≤ s) (sym (pow-add 2 (p - 1) k)) (le_of_suc-le-suc lo)) (subst (λ (x : ℕ). s < x) (sym (pow-add 2 p k) ∙ ap (λ (x : ℕ). 2 ^ x) (all_told p k P)) hi)

rounded : (f : Format) (n s q j : ℕ) → Whole n s → Nearest (prec f) n q (suc j) → round f false (s + s + cond (eqb (s * s) n) 0 1) (2 ^ suc (low f)) ≡ units f false q (suc j)
rounded f n s q j w t =
    let P : 0 < prec f = two-le_pos (prec f) (two f) in
    let g = 2 ^ j in
    let h = 2 ^ suc j in
    let dbl : h ≡ g + g = two-pow-succ j in
    let a = s + s + cond (eqb (s * s) n) 0 1 in
    let u = (2 * q - 1) * g in
    let v = (2 * q + 1) * g in
    let q-pos : 0 < q = lt_of_lt_of_le (pow_pos (prec f - 1)) t.digits in
    let lo : u + u < a = twice-below n s u w (lt_of_mul-lt-mul_left 4 (subst (λ (x : ℕ). x < 4 * n) (halved (2 * q - 1) g h dbl) t.above)) in
    let hi : a < v + v = twice-above n s v w (lt_of_mul-lt-mul_left 4 (subst (λ (x : ℕ). 4 * n < x) (halved (2 * q + 1) g h dbl) t.below)) in
    let lo-is : (2 * q - 1) * h ≡ u + u = ap (λ (x : ℕ). (2 * q - 1) * x) dbl ∙ mul-add (2 * q - 1) g g in
    let hi-is : (2 * q + 1) * h ≡ v + v = ap (λ (x : ℕ). (2 * q + 1) * x) dbl ∙ mul-add (2 * q + 1) g g in
    let near : closest a (h + h) ≡ q = closest-is a h q (from-below (q * (h + h)) a h (u + u) ((2 * q - 1) * h) (lower-point q h q-pos) lo-is lo) (from-above (q * (h + h)) a h (v + v) ((2 * q + 1) * h) (upper-point q h) hi-is hi) in
    kept-units f a (suc j) (drops (prec f) (suc j) (size (a / 2)) P (ap size (half_is n s) ∙ whole-size (prec f) n s q (suc j) P w t))
    ∙ ap (λ (x : ℕ). units f false x (suc j)) near
  where
    from-below : (c a h u y : ℕ) → y + h ≡ c → y ≡ u → u < a → c < a + h
    from-below c a h u y d e l = omega arith

    from-above : (c a h v y : ℕ) → y ≡ c + h → y ≡ v → a < v → a < c + h
    from-above c a h v y d e l = omega arith

-- ---- `root` of a value that is n squares of the format's smallest value
root_is : (f : Format) (m : ℕ) (e : ℤ) (n : ℕ) → suc m * up e * 2 ^ (low f + low f) / down e ≡ n
    → root f (fin false (suc m) e) ≡ round f false (whole_root n + whole_root n + cond (eqb (whole_root n * whole_root n) n) 0 1) (2 ^ suc (low f))
unfolding root
root_is f m e n p = ap (λ (x : ℕ). round f false (whole_root x + whole_root x + cond (eqb (whole_root x * whole_root x) x) 0 1) (2 ^ suc (low f))) p

-- Whatever number of prec digits is nearest to the root of x, in these terms, `root f x` is that number of units.
pub root-of-nearest : (f : Format) (x : Float) (n q k : ℕ) → HasValue x false n (2 ^ (low f + low f)) → 0 < n → 0 < k → Nearest (prec f) n q k → root f x ≡ units f false q k
root-of-nearest f nan n q k v p K t = absurd v
root-of-nearest f (inf s) n q k v p K t = absurd v
root-of-nearest f (fin true m e) n q k v p K t = absurd (true≢false v.0)
root-of-nearest f (fin false zero e) n q k v p K t =
    absurd (lt_irrefl 0 (subst (λ (y : ℕ). 0 < y) (sym v.1 ∙ ap (λ (y : ℕ). y * 2 ^ (low f + low f)) (zero-mul (up e)) ∙ zero-mul (2 ^ (low f + low f))) (mul-pos p (down_pos e))))
root-of-nearest f (fin false (suc m) e) n q zero v p K t = absurd (lt_irrefl 0 K)
root-of-nearest f (fin false (suc m) e) n q (suc j) v p K t =
    root_is f m e n (ap (λ (y : ℕ). y / down e) v.1 ∙ mul-div_cancel n (down_pos e)) ∙ rounded f n (whole_root n) q j (whole_root-correct n) t

-- ---- the bits of q * 2 ^ k units
pub bits_of : (f : Format) (x : Float) (q k : ℕ) → HasValue x false (q * 2 ^ k) (2 ^ low f) → 2 ^ (prec f - 1) ≤ q → q < 2 ^ prec f → to_bits f x ≡ k * hid f + q
bits_of f x q k v lo hi = bits_of_value f x false q k hi (λ _. lo) v ∙ zero-add (k * hid f + q)

-- ---- at most one number is nearest
places : (p k l : ℕ) → 0 < p → p - 1 + l < p + k → l ≤ k
places p k l P h = omega arith

no_longer : (p n q k r l : ℕ) → 0 < p → Nearest p n q k → Nearest p n r l → l ≤ k
no_longer p n q k r l P t u =
    let lo : 2 ^ (p - 1) * 2 ^ l < 2 ^ p * 2 ^ k = sq-lt-back {a = 2 ^ (p - 1) * 2 ^ l} {b = 2 ^ p * 2 ^ k} (lt_of_le_of_lt u.reached (not-reached p n q k t)) in
    places p k l P (pow_lt_back (p - 1 + l) (p + k) (subst (λ (x : ℕ). x < 2 ^ (p + k)) (sym (pow-add 2 (p - 1) l)) (subst (λ (x : ℕ). 2 ^ (p - 1) * 2 ^ l < x) (sym (pow-add 2 p k)) lo)))
  where
    pow_lt_back : (i j : ℕ) → 2 ^ i < 2 ^ j → i < j
    pow_lt_back i j h = lt_of_not-le (λ (g : j ≤ i). not-le_of_lt h (pow_mono g))

no-greater : (p n q k r : ℕ) → Nearest p n q k → Nearest p n r k → r ≤ q
no-greater p n q k r t u =
    let h = 2 ^ k in
    let l : (2 * r - 1) * h < (2 * q + 1) * h = sq-lt-back {a = (2 * r - 1) * h} {b = (2 * q + 1) * h} (lt_trans u.above t.below) in
    less r q (lt_of_mul-lt-mul_right h l)
  where
    less : (r q : ℕ) → 2 * r - 1 < 2 * q + 1 → r ≤ q
    less r q h = omega arith

pub nearest-unique : (p n q k r l : ℕ) → 0 < p → Nearest p n q k → Nearest p n r l → (q ≡ r) × (k ≡ l)
nearest-unique p n q k r l P t u =
    let e : k ≡ l = le_antisymm (no_longer p n r l q k P u t) (no_longer p n q k r l P t u) in
    let v : Nearest p n r k = subst (λ (x : ℕ). Nearest p n r x) (sym e) u in
    (le_antisymm (no-greater p n r k q v t) (no-greater p n q k r t v), e)
