-- `Under x y`: whatever y is below, or at most, x is below, or at most, too. So where a square is not below some best, nothing that it is under is. Everything is under a NaN, and every number under +infinity.
-- A square is under a larger square, and under a sum that it is a part of. Either format; overflow to an infinity and NaNs included.
use mathlib.Core.Path.{◌≡◌, refl, sym, ap, ◌∙◌, subst}
use Prim.Native.Nat.{ℕ, zero, suc, ◌+◌, ◌-◌, ◌*◌, ◌%◌, ◌^◌, ◌≤◌, ◌<◌, zero-le}
use native.Mathlib.Nat.{le_refl as ℕ-le-refl, le_trans as ℕ-le-trans, le_of_eq, le_of_suc-le-suc, lt_of_not-le, not-le_of_lt, le-add_right, le-add_left, lt_of_le_of_lt, lt_of_lt_of_le, zero-mul, one-mul, mul-one, mul_comm, mul_assoc, mul_right_comm, mul-le-mul, mul-le-mul_right, mul-lt-mul_of_pos_right, lt_of_mul-lt-mul_right, mul-pos, mul-mul-mul_comm}
use mathlib.Core.Bool.{Bool, true, false, ◌&&◌, cond}
use lib.IntN.{ℤ, pos, negsuc}
use lib.Dec.{T, not_T, leb, ltb, eqb, ltb→lt, leb→le}
use lib.Pow.{pow_pos, pow-add, pow-lt}
use lib.Ieee.{Float, nan, inf, fin, Format, binary32, prec, emax, low, up, down, odd, units, round, neg, add, sub, mul, lt, le, fits}
use lib.Ieee.Bits.{is_false}
use lib.Ieee.Digits.{back}
use lib.Ieee.Fits.{down_pos, round_is, and_l, and_r, mul-fits, add-fits}
use lib.Ieee.Exact.{HasValue, round_exact}
use lib.Ieee.Order.{le_of_values, round_mono}
use Rattle.bits.specs.Constants.{nought}
use Rattle.bits.proofs.Compare.{number, plus, leq-of-le, le-number-l, le-number-r, highest, le_trans, le_lt_trans}
use Rattle.space.specs.declared.Point3f.{Point3f}
use Rattle.space.specs.Distance.{square_in, squares, distance_squared}

-- y is below b, or at most b, only where x is
abbrev pub Under : Float → Float → Type 0
Under x y = (b : Float) → (T (lt y b) → T (lt x b)) × (T (le y b) → T (le x b))

pub under-refl : (x : Float) → Under x x
under-refl x b = (λ t. t, λ t. t)

pub under-trans : (x y z : Float) → Under x y → Under y z → Under x z
under-trans x y z h k b = (λ t. (h b).0 ((k b).0 t), λ t. (h b).1 ((k b).1 t))

pub under-nan : (x : Float) → Under x nan
unfolding lt le
under-nan x b = (λ t. absurd t, λ t. absurd t)

pub le-under : (x y : Float) → T (le x y) → Under x y
le-under x y h b = (le_lt_trans x y b h, le_trans x y b h)

pub under-inf : (x : Float) → T (number x) → Under x (inf false)
under-inf x h = le-under x (inf false) (highest x h)

-- what the searches take from it: bounded and k nearest go by `lt`, radius by `le`
pub not-below : (x y b : Float) → Under x y → lt x b ≡ false → lt y b ≡ false
not-below x y b h n = is_false (lt y b) (not_T (lt y b) (λ (t : T (lt y b)). subst T n ((h b).0 t)))

pub not_within : (x y b : Float) → Under x y → le x b ≡ false → le y b ≡ false
not_within x y b h n = is_false (le y b) (not_T (le y b) (λ (t : T (le y b)). subst T n ((h b).1 t)))

-- ---- `round`: its sign is the one that it is given, and its size does not turn on that
units-plus : (f : Format) (q k : ℕ) → T (plus (units f false q k))
unfolding units odd
units-plus f q k = go (ltb (q * 2 ^ k) (2 ^ (low f + suc (emax f)))) q
  where
    go : (b : Bool) (r : ℕ) → T (plus (cond b (odd (suc (prec f)) false r k (low f)) (inf false)))
    go true zero = tt
    go true (suc r) = tt
    go false r = tt

pub round-plus : (f : Format) (n d : ℕ) → T (plus (round f false n d))
round-plus f n d = subst (λ (x : Float). T (plus x)) (sym (round_is f false n d)) (units-plus f _ _)

units-neg : (f : Format) (q k : ℕ) → units f true q k ≡ neg (units f false q k)
unfolding units odd neg
units-neg f q k = go (ltb (q * 2 ^ k) (2 ^ (low f + suc (emax f)))) q
  where
    go : (b : Bool) (r : ℕ) → cond b (odd (suc (prec f)) true r k (low f)) (inf true) ≡ neg (cond b (odd (suc (prec f)) false r k (low f)) (inf false))
    go true zero = refl
    go true (suc r) = refl
    go false r = refl

pub round-neg : (f : Format) (n d : ℕ) → round f true n d ≡ neg (round f false n d)
round-neg f n d = round_is f true n d ∙ units-neg f _ _ ∙ ap neg (sym (round_is f false n d))

pub round_number : (f : Format) (n d : ℕ) → 0 < d → T (number (round f false n d))
round_number f n d D = le-number-l (round f false n d) (round f false n d) (round_mono f n d n d D D (ℕ-le-refl (n * d)))

pub round-mono-under : (f : Format) (a b c d : ℕ) → 0 < b → 0 < d → a * d ≤ c * b → Under (round f false a b) (round f false c d)
round-mono-under f a b c d B D h = le-under (round f false a b) (round f false c d) (round_mono f a b c d B D h)

-- ---- squares
square-neg : (f : Format) (x : Float) → square_in f (neg x) ≡ square_in f x
unfolding mul neg
square-neg f nan = refl
square-neg f (inf true) = refl
square-neg f (inf false) = refl
square-neg f (fin true m e) = refl
square-neg f (fin false m e) = refl

pub square-round : (f : Format) (s : Bool) (n d : ℕ) → square_in f (round f s n d) ≡ square_in f (round f false n d)
square-round f true n d = ap (λ (x : Float). square_in f x) (round-neg f n d) ∙ square-neg f (round f false n d)
square-round f false n d = refl

pub square-fin : (f : Format) (s : Bool) (m : ℕ) (e : ℤ) → square_in f (fin s m e) ≡ round f false (m * up e * (m * up e)) (down e * down e)
unfolding mul
square-fin f true m e = refl
square-fin f false m e = refl

pub square-plus : (f : Format) (x : Float) → T (plus (square_in f x))
unfolding mul
square-plus f nan = tt
square-plus f (inf true) = tt
square-plus f (inf false) = tt
square-plus f (fin true m e) = round-plus f (m * up e * (m * up e)) (down e * down e)
square-plus f (fin false m e) = round-plus f (m * up e * (m * up e)) (down e * down e)

square-number : (f : Format) (s : Bool) (m : ℕ) (e : ℤ) → T (number (square_in f (fin s m e)))
square-number f s m e = rw (square-fin f s m e) (round_number f (m * up e * (m * up e)) (down e * down e) (mul-pos (down_pos e) (down_pos e)))

square-inf : (f : Format) (s : Bool) → square_in f (inf s) ≡ inf false
unfolding mul
square-inf f true = refl
square-inf f false = refl

square-nan : (f : Format) → square_in f nan ≡ nan
unfolding mul
square-nan f = refl

square-fin-under : (f : Format) (s : Bool) (m : ℕ) (e : ℤ) (t : Bool) (n : ℕ) (d : ℤ) → m * up e * down d ≤ n * up d * down e → Under (square_in f (fin s m e)) (square_in f (fin t n d))
square-fin-under f s m e t n d h =
    rw (square-fin f s m e, square-fin f t n d)
    (round-mono-under f (m * up e * (m * up e)) (down e * down e) (n * up d * (n * up d)) (down d * down d) (mul-pos (down_pos e) (down_pos e)) (mul-pos (down_pos d) (down_pos d))
    (ℕ-le-trans (le_of_eq (mul-mul-mul_comm (m * up e) (m * up e) (down d) (down d)))
    (ℕ-le-trans (mul-le-mul h h) (le_of_eq (mul-mul-mul_comm (n * up d) (down e) (n * up d) (down e))))))

pub square-under : (f : Format) (x y : Float) → T (plus x) → T (plus y) → T (le x y) → Under (square_in f x) (square_in f y)
square-under f nan y p q h = absurd (le-number-l nan y h)
square-under f (inf true) y p q h = absurd p
square-under f (inf false) nan p q h = absurd (le-number-r (inf false) nan h)
square-under f (inf false) (inf true) p q h = absurd q
square-under f (inf false) (inf false) p q h = under-refl (square_in f (inf false))
square-under f (inf false) (fin t n d) p q h = absurd (unfold le in h)
square-under f (fin true m e) y p q h = absurd p
square-under f (fin false m e) nan p q h = absurd (le-number-r (fin false m e) nan h)
square-under f (fin false m e) (inf t) p q h = rw (square-inf f t) (under-inf (square_in f (fin false m e)) (square-number f false m e))
square-under f (fin false m e) (fin true n d) p q h = absurd q
square-under f (fin false m e) (fin false n d) p q h = square-fin-under f false m e false n d (leq-of-le false m e false n d h)

-- zero's square is under every square
from_nothing : (a b : ℕ) → 0 * 1 * a ≤ b
from_nothing a b = ℕ-le-trans (le_of_eq (zero-mul a)) zero-le

pub square-nought-under : (f : Format) (y : Float) → Under (square_in f nought) (square_in f y)
square-nought-under f nan = rw (square-nan f) (under-nan (square_in f nought))
square-nought-under f (inf t) = rw (square-inf f t) (under-inf (square_in f nought) (square-number f false 0 (pos 0)))
square-nought-under f (fin t n d) = square-fin-under f false 0 (pos 0) t n d (from_nothing (down d) (n * up d * 1))

-- ---- a sum of two values that are not negative is not less than either
-- a value of the format is what `round` makes of it
exponent : (e : ℤ) (l : ℕ) → down e ≤ 2 ^ l → (j : ℕ) × (up e * 2 ^ l ≡ 2 ^ j * down e)
exponent (pos k) l h = (k + l, sym (pow-add 2 k l) ∙ sym (mul-one (2 ^ (k + l))))
exponent (negsuc k) l h =
    let g : suc k ≤ l = le_of_suc-le-suc (lt_of_not-le (λ (x : suc l ≤ suc k). not-le_of_lt (pow-lt x) h)) in
    (l - suc k, one-mul (2 ^ l) ∙ ap (λ (x : ℕ). 2 ^ x) (sym (back l (suc k) g)) ∙ pow-add 2 (l - suc k) (suc k))

settled : (f : Format) (m : ℕ) (e : ℤ) → m < 2 ^ prec f → down e ≤ 2 ^ low f → m * up e < 2 ^ suc (emax f) * down e → HasValue (round f false (m * up e) (down e)) false (m * up e) (down e)
settled f m e a b c =
    let x = exponent e (low f) b in
    let j = x.0 in
    let v : m * up e * 2 ^ low f ≡ m * 2 ^ j * down e = mul_assoc m (up e) (2 ^ low f) ∙ ap (λ (z : ℕ). m * z) x.1 ∙ sym (mul_assoc m (2 ^ j) (down e)) in
    let w : m * 2 ^ j * down e < 2 ^ (low f + suc (emax f)) * down e =
    subst (λ (z : ℕ). z < 2 ^ (low f + suc (emax f)) * down e) v
    (lt_of_lt_of_le (mul-lt-mul_of_pos_right c (pow_pos (low f)))
    (le_of_eq (mul_right_comm (2 ^ suc (emax f)) (down e) (2 ^ low f) ∙ ap (λ (z : ℕ). z * down e) (mul_comm (2 ^ suc (emax f)) (2 ^ low f) ∙ sym (pow-add 2 (low f) (suc (emax f))))))) in
    round_exact f false (m * up e) (down e) m j (down_pos e) a (lt_of_mul-lt-mul_right (down e) w) v

pub round-zero : (f : Format) (a d : ℕ) → a ≡ 0 → 0 < d → HasValue (round f false a d) false a d
round-zero f a d z D =
    round_exact f false a d 0 0 D (pow_pos (prec f)) (lt_of_le_of_lt (le_of_eq (mul-one 0)) (pow_pos (low f + suc (emax f))))
    (ap (λ (x : ℕ). x * 2 ^ low f) z ∙ zero-mul (2 ^ low f) ∙ sym (zero-mul d))

unroll : (f : Format) (m : ℕ) (e : ℤ) → T (fits f (fin false m e)) → HasValue (round f false (m * up e) (down e)) false (m * up e) (down e)
unfolding fits
unroll f zero e h = round-zero f (0 * up e) (down e) (zero-mul (up e)) (down_pos e)
unroll f (suc m) e h =
    let a = eqb (suc m % 2) 1 in
    let b = ltb (suc m) (2 ^ prec f) in
    let c = leb (down e) (2 ^ low f) in
    let d = ltb (suc m * up e) (2 ^ suc (emax f) * down e) in
    let x = and_l (a && b && c) d h in
    settled f (suc m) e (ltb→lt (suc m) (2 ^ prec f) (and_r a b (and_l (a && b) c x))) (leb→le (down e) (2 ^ low f) (and_r (a && b) c x)) (ltb→lt (suc m * up e) (2 ^ suc (emax f) * down e) (and_r (a && b && c) d h))

-- a value of the format is under what a larger fraction rounds to
fits-under-round : (f : Format) (m : ℕ) (e : ℤ) (a d : ℕ) → T (fits f (fin false m e)) → 0 < d → m * up e * d ≤ a * down e → Under (fin false m e) (round f false a d)
fits-under-round f m e a d h D k =
    let r = round f false (m * up e) (down e) in
    under-trans (fin false m e) r (round f false a d)
    (le-under (fin false m e) r (le_of_values (fin false m e) r (m * up e) (down e) (m * up e) (down e) (down_pos e) (down_pos e) (refl, refl) (unroll f m e h) (ℕ-le-refl (m * up e * down e))))
    (round-mono-under f (m * up e) (down e) a d (down_pos e) D k)

first_part : (x p y q : ℕ) → x * (p * q) ≤ (x * q + y * p) * p
first_part x p y q = ℕ-le-trans (le_of_eq (simp (mul_assoc, mul_comm))) (mul-le-mul_right p (le-add_right (x * q) (y * p)))

second-part : (x p y q : ℕ) → y * (p * q) ≤ (x * q + y * p) * q
second-part x p y q = ℕ-le-trans (le_of_eq (sym (mul_assoc y p q))) (mul-le-mul_right q (le-add_left (y * p) (x * q)))

pub add-plus : (f : Format) (x y : Float) → T (plus x) → T (plus y) → T (plus (add f x y))
unfolding add
add-plus f nan y p q = tt
add-plus f (inf true) y p q = absurd p
add-plus f (inf false) nan p q = tt
add-plus f (inf false) (inf true) p q = absurd q
add-plus f (inf false) (inf false) p q = tt
add-plus f (inf false) (fin t n d) p q = tt
add-plus f (fin true m e) y p q = absurd p
add-plus f (fin false m e) nan p q = tt
add-plus f (fin false m e) (inf t) p q = q
add-plus f (fin false m e) (fin true n d) p q = absurd q
add-plus f (fin false m e) (fin false n d) p q = round-plus f (m * up e * down d + n * up d * down e) (down e * down d)

pub add-under-left : (f : Format) (x y : Float) → T (plus x) → T (plus y) → T (fits f x) → Under x (add f x y)
unfolding add
add-under-left f nan y p q h = under-refl nan
add-under-left f (inf true) y p q h = absurd p
add-under-left f (inf false) nan p q h = under-nan (inf false)
add-under-left f (inf false) (inf true) p q h = absurd q
add-under-left f (inf false) (inf false) p q h = under-refl (inf false)
add-under-left f (inf false) (fin t n d) p q h = under-refl (inf false)
add-under-left f (fin true m e) y p q h = absurd p
add-under-left f (fin false m e) nan p q h = under-nan (fin false m e)
add-under-left f (fin false m e) (inf true) p q h = absurd q
add-under-left f (fin false m e) (inf false) p q h = under-inf (fin false m e) tt
add-under-left f (fin false m e) (fin true n d) p q h = absurd q
add-under-left f (fin false m e) (fin false n d) p q h =
    fits-under-round f m e (m * up e * down d + n * up d * down e) (down e * down d) h (mul-pos (down_pos e) (down_pos d)) (first_part (m * up e) (down e) (n * up d) (down d))

pub add-under-right : (f : Format) (x y : Float) → T (plus x) → T (plus y) → T (fits f y) → Under y (add f x y)
unfolding add
add-under-right f nan y p q h = under-nan y
add-under-right f (inf true) y p q h = absurd p
add-under-right f (inf false) nan p q h = under-refl nan
add-under-right f (inf false) (inf true) p q h = absurd q
add-under-right f (inf false) (inf false) p q h = under-refl (inf false)
add-under-right f (inf false) (fin t n d) p q h = under-inf (fin t n d) tt
add-under-right f (fin true m e) y p q h = absurd p
add-under-right f (fin false m e) nan p q h = under-refl nan
add-under-right f (fin false m e) (inf true) p q h = absurd q
add-under-right f (fin false m e) (inf false) p q h = under-refl (inf false)
add-under-right f (fin false m e) (fin true n d) p q h = absurd q
add-under-right f (fin false m e) (fin false n d) p q h =
    fits-under-round f n d (m * up e * down d + n * up d * down e) (down e * down d) h (mul-pos (down_pos e) (down_pos d)) (second-part (m * up e) (down e) (n * up d) (down d))

-- ---- a sum of three squares, as the squared distance has it
-- it is never negative, and never -0
two-plus : (f : Format) (x y : Float) → T (plus (add f (square_in f x) (square_in f y)))
two-plus f x y = add-plus f (square_in f x) (square_in f y) (square-plus f x) (square-plus f y)

pub squares-plus : (f : Format) (x y z : Float) → T (plus (squares f x y z))
squares-plus f x y z = add-plus f (add f (square_in f x) (square_in f y)) (square_in f z) (two-plus f x y) (square-plus f z)

-- each square is under it
two-under : (f : Format) (x y z : Float) → Under (add f (square_in f x) (square_in f y)) (squares f x y z)
two-under f x y z = add-under-left f (add f (square_in f x) (square_in f y)) (square_in f z) (two-plus f x y) (square-plus f z) (add-fits f (square_in f x) (square_in f y))

pub under-x : (f : Format) (x y z : Float) → Under (square_in f x) (squares f x y z)
under-x f x y z =
    under-trans (square_in f x) (add f (square_in f x) (square_in f y)) (squares f x y z)
    (add-under-left f (square_in f x) (square_in f y) (square-plus f x) (square-plus f y) (mul-fits f x x)) (two-under f x y z)

pub under-y : (f : Format) (x y z : Float) → Under (square_in f y) (squares f x y z)
under-y f x y z =
    under-trans (square_in f y) (add f (square_in f x) (square_in f y)) (squares f x y z)
    (add-under-right f (square_in f x) (square_in f y) (square-plus f x) (square-plus f y) (mul-fits f y y)) (two-under f x y z)

pub under-z : (f : Format) (x y z : Float) → Under (square_in f z) (squares f x y z)
under-z f x y z = add-under-right f (add f (square_in f x) (square_in f y)) (square_in f z) (two-plus f x y) (square-plus f z) (mul-fits f z z)

-- ---- the computed distance: a value of f32, never negative and never -0. So by `key-lt` and `key-le-iff` two distances that are numbers compare as their keys do
pub distance-fits : (q p : Point3f) → T (fits binary32 (distance_squared q p))
unfolding distance_squared
distance-fits q p =
    let x = sub binary32 p.x q.x in
    let y = sub binary32 p.y q.y in
    add-fits binary32 (add binary32 (square_in binary32 x) (square_in binary32 y)) (square_in binary32 (sub binary32 p.z q.z))

pub distance-plus : (q p : Point3f) → T (plus (distance_squared q p))
unfolding distance_squared
distance-plus q p = squares-plus binary32 (sub binary32 p.x q.x) (sub binary32 p.y q.y) (sub binary32 p.z q.z)
