-- The computed squared distance against the exact one. Where every coordinate is a multiple of 2 ^ -40 of magnitude 2 ^ 40 at most, the binary32 distance is finite, and two distances that are in order as computed
-- are in order exactly, but for one part in 2 ^ 20. The exact squared distance is a natural number, in units of 2 ^ -80.
use mathlib.Core.Path.{◌≡◌, refl, sym, ap, ◌∙◌, subst}
use Prim.Native.Nat.{ℕ, ◌+◌, ◌-◌, ◌*◌, ◌/◌, ◌%◌, ◌^◌, ◌≤◌, ◌<◌}
use native.Mathlib.Nat.{div-add-mod', add-zero, div-le_of_le-mul, mul-le-mul_right, le_trans, le_of_eq, mul-one, mul_comm, mul_assoc, mul_right_comm, mul-mul-mul_comm, add-mul, mul-le-mul, le_of_mul-le-mul_right, mul-pos}
use native.Mathlib.Omega.{arith}
use mathlib.Core.Bool.{Bool, true, false, not, beq, cond}
use lib.IntN.{ℤ}
use lib.Dec.{T, leb, eqb, eqb→eq, leb→le, lit<, lit≤}
use lib.Pow.{pow_pos}
use lib.Ieee.{Float, nan, inf, fin, Format, binary32, up, down, round, add, sub, le, lt}
use denote.Floats.{passes}
use lib.Ieee.Bits.{is_true}
use lib.Ieee.Fits.{down_pos, and_l, and_r}
use lib.Ieee.Exact.{HasValue}
use lib.Ieee.Scale.{round_same}
use Rattle.bits.specs.Finite.{finite}
use Rattle.bits.proofs.Compare.{finite_number, units-le, le_of_not_lt}
use Rattle.space.specs.declared.Point3f.{Point3f}
use Rattle.space.specs.Distance.{square_in, square, distance_squared}
use Rattle.space.specs.Exact.{tame, Tame, sign, grain, gap, between, exact}
use Rattle.space.proofs.Gap.{gap-scale}
use Rattle.space.proofs.Under.{square-fin}
use Rattle.space.proofs.Prune.{size_is, sub-sum}
use Rattle.space.proofs.Within.{Within, few, within-self, within-mul, within-add, within_more, within-cancel, within-order, within-five}
use Rattle.space.proofs.Rounding.{climb}

-- ---- the operations, at values that are given as fractions
pub square-at : (f : Format) (x : Float) (s : Bool) (g l : ℕ) → 0 < l → HasValue x s g l → square_in f x ≡ round f false (g * g) (l * l)
square-at f nan s g l L h = absurd h
square-at f (inf t) s g l L h = absurd h
square-at f (fin t m e) s g l L h =
    square-fin f t m e
    ∙ round_same f false (m * up e * (m * up e)) (down e * down e) (g * g) (l * l) (mul-pos (down_pos e) (down_pos e)) (mul-pos L L)
    (mul-mul-mul_comm (m * up e) (m * up e) l l ∙ ap (λ (z : ℕ). z * z) h.1 ∙ mul-mul-mul_comm g (down e) g (down e))

add-fin : (f : Format) (m : ℕ) (e : ℤ) (n : ℕ) (d : ℤ) → add f (fin false m e) (fin false n d) ≡ round f false (m * up e * down d + n * up d * down e) (down e * down d)
unfolding add
add-fin f m e n d = refl

pub add_at : (f : Format) (x y : Float) (g h l : ℕ) → 0 < l → HasValue x false g l → HasValue y false h l → add f x y ≡ round f false (g + h) l
add_at f nan y g h l L p q = absurd p
add_at f (inf s) y g h l L p q = absurd p
add_at f (fin s m e) nan g h l L p q = absurd q
add_at f (fin s m e) (inf t) g h l L p q = absurd q
add_at f (fin s m e) (fin t n d) g h l L p q =
    ap (λ (z : Bool). add f (fin z m e) (fin t n d)) p.0
    ∙ ap (λ (z : Bool). add f (fin false m e) (fin z n d)) q.0
    ∙ add-fin f m e n d
    ∙ round_same f false (m * up e * down d + n * up d * down e) (down e * down d) (g + h) l (mul-pos (down_pos e) (down_pos d)) L
    (add-mul (m * up e * down d) (n * up d * down e) l
    ∙ ap (λ (z : ℕ). z + n * up d * down e * l) (mul_right_comm (m * up e) (down d) l ∙ ap (λ (z : ℕ). z * down d) p.1 ∙ mul_assoc g (down e) (down d))
    ∙ ap (λ (z : ℕ). g * (down e * down d) + z) (mul_right_comm (n * up d) (down e) l ∙ ap (λ (z : ℕ). z * down e) q.1 ∙ mul_assoc h (down d) (down e) ∙ ap (λ (z : ℕ). h * z) (mul_comm (down d) (down e)))
    ∙ sym (add-mul g h (down e * down d)))

-- the square of a difference of ±X / c and ±Y / c
pub square-sub-at : (f : Format) (x y : Float) (s t : Bool) (X Y c : ℕ) → 0 < c → HasValue x s X c → HasValue y t Y c → square_in f (sub f x y) ≡ square_in f (round f false (gap s X (not t) Y) c)
square-sub-at f nan y s t X Y c C p q = absurd p
square-sub-at f (inf v) y s t X Y c C p q = absurd p
square-sub-at f (fin v m e) nan s t X Y c C p q = absurd q
square-sub-at f (fin v m e) (inf w) s t X Y c C p q = absurd q
square-sub-at f (fin v m e) (fin w n d) s t X Y c C p q =
    let a = m * up e * down d in
    let b = n * up d * down e in
    let k = down e * down d in
    ap (λ (z : Bool). square_in f (sub f (fin z m e) (fin w n d))) p.0
    ∙ ap (λ (z : Bool). square_in f (sub f (fin s m e) (fin z n d))) q.0
    ∙ ap (λ (z : Float). square_in f z) (sub-sum f s m e t n d)
    ∙ size_is f s a (not t) b k
    ∙ ap (λ (z : Float). square_in f z)
    (round_same f false (gap s a (not t) b) k (gap s X (not t) Y) c (mul-pos (down_pos e) (down_pos d)) C
    (gap-scale s a (not t) b c
    ∙ ap (λ (z : ℕ). gap s z (not t) (b * c)) (mul_right_comm (m * up e) (down d) c ∙ ap (λ (z : ℕ). z * down d) p.1 ∙ mul_assoc X (down e) (down d))
    ∙ ap (λ (z : ℕ). gap s (X * k) (not t) z) (mul_right_comm (n * up d) (down e) c ∙ ap (λ (z : ℕ). z * down e) q.1 ∙ mul_assoc Y (down d) (down e) ∙ ap (λ (z : ℕ). Y * z) (mul_comm (down d) (down e)))
    ∙ sym (gap-scale s X (not t) Y k)))

gap-le : (s : Bool) (a : ℕ) (t : Bool) (b : ℕ) → a ≤ 2 ^ 80 → b ≤ 2 ^ 80 → gap s a t b ≤ 2 ^ 81
gap-le s a t b h k = go (beq s t)
  where
    go : (e : Bool) → cond e (a + b) ((a - b) + (b - a)) ≤ 2 ^ 81
    go true = omega arith
    go false = omega arith

-- ---- a value of so many units of 2 ^ -149, which is `a` but for k roundings
abbrev Has : Float → ℕ → ℕ → Type 0
Has x k a = (g : ℕ) × HasValue x false g (2 ^ 149) × Within k g a

-- one axis: three roundings, as the difference stands twice in its square
one-axis : (G : ℕ) → G ≤ 2 ^ 81 → Has (square (round binary32 false G (2 ^ 40))) 3 (G * G * 2 ^ 69)
one-axis G h =
    let a = climb 0 (G * 2 ^ 109) G (2 ^ 109) 1 (2 ^ 81) (tt, tt) (within-self (G * 2 ^ 109)) h (lit< tt) (lit≤ tt) (lit≤ tt) in
    let g = a.0 in
    let i : round binary32 false G (2 ^ 40) ≡ round binary32 false (G * 2 ^ 109) (1 * 2 ^ 149) = round_same binary32 false G (2 ^ 40) (G * 2 ^ 109) (1 * 2 ^ 149) (pow_pos 40) (pow_pos 149) (sym (mul_assoc G (2 ^ 109) (2 ^ 40))) in
    let v : HasValue (round binary32 false G (2 ^ 40)) false g (2 ^ 149) = subst (λ (z : Float). HasValue z false g (2 ^ 149)) (sym i) a.1 in
    let w : Within 1 g (G * 2 ^ 109) = subst (λ (z : ℕ). Within 1 z (G * 2 ^ 109)) (mul-one g) a.2 in
    let x : Within 2 (g * g) (G * G * 2 ^ 218) = subst (λ (z : ℕ). Within 2 (g * g) z) (mul-mul-mul_comm G (2 ^ 109) G (2 ^ 109)) (within-mul 1 1 g g (G * 2 ^ 109) (G * 2 ^ 109) w w) in
    let b = climb 2 (g * g) (G * G) (2 ^ 218) (2 ^ 149) (2 ^ 162) (tt, tt) x (mul-le-mul h h) (lit< tt) (lit≤ tt) (lit≤ tt) in (
      b.0,
      subst (λ (z : Float). HasValue z false b.0 (2 ^ 149)) (sym (square-at binary32 (round binary32 false G (2 ^ 40)) false g (2 ^ 149) (pow_pos 149) v)) b.1,
      within-cancel 3 b.0 (G * G * 2 ^ 69) (2 ^ 149) (pow_pos 149) (subst (λ (z : ℕ). Within 3 (b.0 * 2 ^ 149) z) (sym (mul_assoc (G * G) (2 ^ 69) (2 ^ 149))) b.2),
    )

-- two such values added: one rounding more
plus_one : (x y : Float) (k M N : ℕ) → (w : few k) → M + N ≤ 2 ^ 164 → Has x k (M * 2 ^ 69) → Has y k (N * 2 ^ 69) → Has (add binary32 x y) (k + 1) ((M + N) * 2 ^ 69)
plus_one x y k M N w h p q =
    let g = p.0 in
    let j = q.0 in
    let i : Within k (g + j) ((M + N) * 2 ^ 69) = subst (λ (z : ℕ). Within k (g + j) z) (sym (add-mul M N (2 ^ 69))) (within-add k g j (M * 2 ^ 69) (N * 2 ^ 69) p.2 q.2) in
    let a = climb k (g + j) (M + N) (2 ^ 69) 1 (2 ^ 164) w i h (lit< tt) (lit≤ tt) (lit≤ tt) in (
      a.0,
      subst (λ (z : Float). HasValue z false a.0 (2 ^ 149)) (sym (add_at binary32 x y g j (2 ^ 149) (pow_pos 149) p.1 q.1)) a.1,
      subst (λ (z : ℕ). Within (k + 1) z ((M + N) * 2 ^ 69)) (mul-one a.0) a.2,
    )

more : (x : Float) (k a : ℕ) → Has x k a → Has x (k + 1) a
more x k a h = (h.0, h.1, within_more k h.0 a h.2)

-- ---- coordinates
-- a tame coordinate is exactly so many units of 2 ^ -40
pub tame-value : (x : Float) → T (tame x) → HasValue x (sign x) (grain x) (2 ^ 40)
tame-value nan h = absurd h
tame-value (inf s) h = absurd h
tame-value (fin s m e) h =
    let a = m * up e * 2 ^ 40 in
    let r : a % down e ≡ 0 = eqb→eq (a % down e) 0 (and_l (eqb (a % down e) 0) (leb (m * up e) (2 ^ 40 * down e)) h) in
    (refl, sym (div-add-mod' a (down e)) ∙ ap (λ (z : ℕ). a / down e * down e + z) r ∙ add-zero (a / down e * down e))

tame-small : (x : Float) → T (tame x) → grain x ≤ 2 ^ 80
tame-small nan h = absurd h
tame-small (inf s) h = absurd h
tame-small (fin s m e) h =
    let a = m * up e * 2 ^ 40 in
    let l : m * up e ≤ 2 ^ 40 * down e = leb→le (m * up e) (2 ^ 40 * down e) (and_r (eqb (a % down e) 0) (leb (m * up e) (2 ^ 40 * down e)) h) in
    div-le_of_le-mul (down e) (le_trans (mul-le-mul_right (2 ^ 40) l) (le_of_eq (mul_right_comm (2 ^ 40) (down e) (2 ^ 40) ∙ mul_comm (2 ^ 80) (down e))))

between_le : (x y : Float) → T (tame x) → T (tame y) → between x y ≤ 2 ^ 81
between_le x y p q = gap-le (sign x) (grain x) (not (sign y)) (grain y) (tame-small x p) (tame-small y q)

axis : (x y : Float) → T (tame x) → T (tame y) → Has (square (sub binary32 x y)) 3 (between x y * between x y * 2 ^ 69)
axis x y p q =
    subst (λ (z : Float). Has z 3 (between x y * between x y * 2 ^ 69)) (sym (square-sub-at binary32 x y (sign x) (sign y) (grain x) (grain y) (2 ^ 40) (pow_pos 40) (tame-value x p) (tame-value y q)))
    (one-axis (between x y) (between_le x y p q))

-- ---- distances
-- the bound is a variable, since `omega` takes no number of over 38 digits
sum-small : (a b c v : ℕ) → a ≤ v → b ≤ v → c ≤ v → (a + b ≤ v * 4) × (a + b + c ≤ v * 4)
sum-small a b c v h k l = omega arith

dist-has : (q p : Point3f) → Tame q → Tame p → Has (distance_squared q p) 5 (exact q p * 2 ^ 69)
unfolding distance_squared
dist-has q p Q P =
    let gx = between p.x q.x in
    let gy = between p.y q.y in
    let gz = between p.z q.z in
    let X = square (sub binary32 p.x q.x) in
    let Y = square (sub binary32 p.y q.y) in
    let Z = square (sub binary32 p.z q.z) in
    let hx = between_le p.x q.x P.x Q.x in
    let hy = between_le p.y q.y P.y Q.y in
    let hz = between_le p.z q.z P.z Q.z in
    let s = sum-small (gx * gx) (gy * gy) (gz * gz) (2 ^ 162) (mul-le-mul hx hx) (mul-le-mul hy hy) (mul-le-mul hz hz) in
    plus_one (add binary32 X Y) Z 4 (gx * gx + gy * gy) (gz * gz) (tt, tt) s.1
    (plus_one X Y 3 (gx * gx) (gy * gy) (tt, tt) s.0 (axis p.x q.x P.x Q.x) (axis p.y q.y P.y Q.y))
    (more Z 3 (gz * gz * 2 ^ 69) (axis p.z q.z P.z Q.z))

has-finite : (x : Float) (k a : ℕ) → Has x k a → T (finite x)
unfolding finite
has-finite nan k a h = h.1
has-finite (inf s) k a h = h.1
has-finite (fin s m e) k a h = tt

has-order : (x y : Float) (D E : ℕ) → Has x 5 (D * 2 ^ 69) → Has y 5 (E * 2 ^ 69) → T (le x y) → D * 1048576 ≤ E * 1048577
has-order x y D E p q t =
    let o = within-order 5 p.0 (D * 2 ^ 69) q.0 (E * 2 ^ 69) p.2 q.2 ((units-le x y false false p.0 q.0 (2 ^ 149) (pow_pos 149) p.1 q.1).0 t) in
    le_of_mul-le-mul_right (le_trans (le_of_eq (mul_right_comm D 1048576 (2 ^ 69))) (le_trans (within-five (D * 2 ^ 69) (E * 2 ^ 69) o) (le_of_eq (mul_right_comm E (2 ^ 69) 1048577)))) (pow_pos 69)

-- ---- demand 3
-- the computed distance is finite
pub dist-finite : (q p : Point3f) → Tame q → Tame p → T (finite (distance_squared q p))
dist-finite q p Q P = has-finite (distance_squared q p) 5 (exact q p * 2 ^ 69) (dist-has q p Q P)

-- a point that is no further as computed is no further exactly, but for one part in 2 ^ 20
pub accurate : (q p r : Point3f) → Tame q → Tame p → Tame r → le (distance_squared q p) (distance_squared q r) ≡ true → exact q p * 1048576 ≤ exact q r * 1048577
accurate q p r Q P R h = has-order (distance_squared q p) (distance_squared q r) (exact q p) (exact q r) (dist-has q p Q P) (dist-has q r Q R) (passes (le (distance_squared q p) (distance_squared q r)) h)

-- the same of a point that no r is strictly nearer than, as a search has it
pub nearest-accurate : (q p r : Point3f) → Tame q → Tame p → Tame r → lt (distance_squared q r) (distance_squared q p) ≡ false → exact q p * 1048576 ≤ exact q r * 1048577
nearest-accurate q p r Q P R h =
    let d = distance_squared q p in
    let e = distance_squared q r in
    accurate q p r Q P R
    (is_true (le d e) (le_of_not_lt e d (finite_number e (dist-finite q r Q R)) (finite_number d (dist-finite q p Q P)) (subst (λ (t : Bool). T (not t)) (sym h) tt)))
