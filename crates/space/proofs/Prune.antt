-- The pruning law. A node c splits its points on an axis, q is the query's coordinate there, and a = q - c as computed. A point p on the far side, that is c ≤ p where a ≤ 0 and p ≤ c otherwise,
-- has a computed squared distance from q that is below a best only where a·a, as computed, is below it too. So where a·a is not below the best, no point of the far side is.
-- c and p are finite; q is any value, a NaN and the infinities included, and so are the differences on the other two axes.
use mathlib.Core.Path.{◌≡◌, refl, sym, ap, ◌∙◌, subst}
use mathlib.Core.Logic.{◌⊎◌, inl, inr}
use Prim.Native.Nat.{ℕ, zero, suc, ◌+◌, ◌-◌, ◌*◌, ◌^◌, ◌≤◌, ◌<◌, zero-le}
use native.Mathlib.Nat.{le_trans, le_of_eq, le_of_lt, zero-lt-suc, mul-one, mul-pos}
use native.Mathlib.Omega.{arith}
use mathlib.Core.Bool.{Bool, true, false, not, ◌&&◌, beq, cond}
use lib.IntN.{ℤ, pos}
use lib.Dec.{T, ltb, ltb→lt, nltb→le, T_not}
use lib.Ieee.{Float, nan, inf, fin, Format, binary32, fits, prec, emax, low, up, down, odd, units, round, sum, sub, mul, le}
use lib.Ieee.Fits.{down_pos, round_is}
use lib.Ieee.Order.{le_of_values, round_mono}
use Rattle.bits.specs.Constants.{nought}
use Rattle.bits.specs.Finite.{finite}
use Rattle.bits.specs.Key.{key}
use Rattle.bits.proofs.Signed.{Leq, leq-scale, leq-total, leq-widen}
use Rattle.bits.proofs.Compare.{finite_number, leq-of-le, le-of-leq}
use Rattle.bits.proofs.Keys.{key-le}
use Rattle.space.specs.declared.Point3f.{Point3f}
use Rattle.space.specs.Distance.{square_in, square, on, distance_squared, apart, left_is_near}
use Rattle.space.specs.Exact.{gap}
use Rattle.space.proofs.Gap.{upward, downward, common}
use Rattle.space.proofs.Under.{Under, under-refl, under-trans, round-plus, round-zero, square-round, square-under, square-nought-under, under-x, under-y, under-z}

-- ---- a computed difference, by its sign and its size
pub size_is : (f : Format) (s : Bool) (a : ℕ) (t : Bool) (b c : ℕ) → square_in f (sum f s a t b c) ≡ square_in f (round f false (gap s a t b) c)
unfolding sum
size_is f s a t b c = go (beq s t) (ltb a b) (ltb→lt a b) (nltb→le a b)
  where
    less : a < b → b - a ≡ (a - b) + (b - a)
    less h = omega arith

    more : b ≤ a → a - b ≡ (a - b) + (b - a)
    more h = omega arith

    go : (e l : Bool) → (T l → a < b) → (T (not l) → b ≤ a)
        → square_in f (cond e (round f s (a + b) c) (cond l (round f t (b - a) c) (round f (s && ltb b a) (a - b) c))) ≡ square_in f (round f false (cond e (a + b) ((a - b) + (b - a))) c)
    go true l h k = square-round f s (a + b) c
    go false true h k = square-round f t (b - a) c ∙ ap (λ (x : ℕ). square_in f (round f false x c)) (less (h tt))
    go false false h k = square-round f (s && ltb b a) (a - b) c ∙ ap (λ (x : ℕ). square_in f (round f false x c)) (more (k tt))

pub sub-sum : (f : Format) (s : Bool) (m : ℕ) (e : ℤ) (t : Bool) (n : ℕ) (d : ℤ) → sub f (fin s m e) (fin t n d) ≡ sum f s (m * up e * down d) (not t) (n * up d * down e) (down e * down d)
unfolding sub
sub-sum f s m e t n d = refl

-- ---- what lies at zero or below
neg-le : (m : ℕ) (e : ℤ) → T (le (fin true m e) nought)
neg-le m e = le-of-leq true m e false 0 (pos 0) tt

round-neg-le : (f : Format) (n d : ℕ) → T (le (round f true n d) nought)
round-neg-le f n d = subst (λ (x : Float). T (le x nought)) (sym (round_is f true n d)) (go f _ _)
  where
    go : (f : Format) (q k : ℕ) → T (le (units f true q k) nought)
    go f q k = unfold units odd in pick (ltb (q * 2 ^ k) (2 ^ (low f + suc (emax f)))) q
      where
        pick : (b : Bool) (r : ℕ) → T (le (cond b (odd (suc (prec f)) true r k (low f)) (inf true)) nought)
        pick true zero = unfold odd in neg-le 0 (pos 0)
        pick true (suc r) = unfold odd in neg-le _ _
        pick false r = unfold le in tt

round-nought-le : (f : Format) (a c : ℕ) → a ≡ 0 → 0 < c → T (le (round f false a c) nought)
round-nought-le f a c z C =
    le_of_values (round f false a c) nought a c 0 1 C (zero-lt-suc 0) (round-zero f a c z C) (refl, refl) (le_trans (le_of_eq (mul-one a ∙ z)) zero-le)

-- a difference of two in order is at zero or below
sum-le : (f : Format) (s : Bool) (a : ℕ) (t : Bool) (b c : ℕ) → 0 < c → Leq s a t b → T (le (sum f s a (not t) b c) nought)
unfolding sum
sum-le f false a false b c C h = go (ltb a b)
  where
    none : a - b ≡ 0
    none = omega arith

    go : (l : Bool) → T (le (cond l (round f true (b - a) c) (round f false (a - b) c)) nought)
    go true = round-neg-le f (b - a) c
    go false = round-nought-le f (a - b) c none C
sum-le f false a true b c C h = round-nought-le f (a + b) c (none a b h) C
  where
    none : (x y : ℕ) → x + y ≤ 0 → x + y ≡ 0
    none x y g = omega arith
sum-le f true a false b c C h = round-neg-le f (a + b) c
sum-le f true a true b c C h = go (ltb a b) (ltb b a) (nltb→le b a)
  where
    none : b - a ≡ 0
    none = omega arith

    nil : a ≤ b → a - b ≡ 0
    nil g = omega arith

    go : (l k : Bool) → (T (not k) → a ≤ b) → T (le (cond l (round f false (b - a) c) (round f (true && k) (a - b) c)) nought)
    go true k u = round-nought-le f (b - a) c none C
    go false true u = round-neg-le f (a - b) c
    go false false u = round-nought-le f (a - b) c (nil (u tt)) C

-- a difference of two in the other order is not negative, but where they are equal
sum-ge : (f : Format) (s : Bool) (a : ℕ) (t : Bool) (b c : ℕ) → Leq t b s a → (sum f s a (not t) b c ≡ round f false (gap s a (not t) b) c) ⊎ Leq s a t b
unfolding sum
sum-ge f false a false b c h = go (ltb a b) (ltb→lt a b)
  where
    more : a - b ≡ (a - b) + (b - a)
    more = omega arith

    go : (l : Bool) → (T l → a < b) → (cond l (round f true (b - a) c) (round f false (a - b) c) ≡ round f false ((a - b) + (b - a)) c) ⊎ (a ≤ b)
    go true u = inr (le_of_lt (u tt))
    go false u = inl (ap (λ (x : ℕ). round f false x c) more)
sum-ge f false a true b c h = inl refl
sum-ge f true a false b c h = inr tt
sum-ge f true a true b c h = go (ltb a b) (nltb→le a b)
  where
    more : b - a ≡ (a - b) + (b - a)
    more = omega arith

    go : (l : Bool) → (T (not l) → b ≤ a) → (cond l (round f false (b - a) c) (round f (true && ltb b a) (a - b) c) ≡ round f false ((a - b) + (b - a)) c) ⊎ (b ≤ a)
    go true u = inl (ap (λ (x : ℕ). round f false x c) more)
    go false u = inr (u tt)

-- ---- three finite values
module _ (f : Format) (s : Bool) (m : ℕ) (e : ℤ) (t : Bool) (n : ℕ) (d : ℤ) (r : Bool) (o : ℕ) (g : ℤ) where
  sizes : gap s (m * up e * down d) (not t) (n * up d * down e) * (down g * down e) ≤ gap r (o * up g * down e) (not s) (m * up e * down g) * (down e * down d)
      → Under (square_in f (sub f (fin s m e) (fin t n d))) (square_in f (sub f (fin r o g) (fin s m e)))
  sizes h =
      let x = gap s (m * up e * down d) (not t) (n * up d * down e) in
      let y = gap r (o * up g * down e) (not s) (m * up e * down g) in
      rw (sub-sum f s m e t n d, sub-sum f r o g s m e, size_is f s (m * up e * down d) (not t) (n * up d * down e) (down e * down d), size_is f r (o * up g * down e) (not s) (m * up e * down g) (down g * down e))
      (square-under f (round f false x (down e * down d)) (round f false y (down g * down e)) (round-plus f x (down e * down d)) (round-plus f y (down g * down e))
      (round_mono f x (down e * down d) y (down g * down e) (mul-pos (down_pos e) (down_pos d)) (mul-pos (down_pos g) (down_pos e)) h))

  -- q ≤ c ≤ p, and p ≤ c ≤ q
  in_order : Leq s (m * up e * down d) t (n * up d * down e) → T (le (fin t n d) (fin r o g)) → Under (square_in f (sub f (fin s m e) (fin t n d))) (square_in f (sub f (fin r o g) (fin s m e)))
  in_order h k =
      sizes (common s (not t) r (not s) (m * up e) (down e) (n * up d) (down d) (o * up g) (down g)
      (upward s (m * up e * down d * down g) t (n * up d * down e * down g) r (o * up g * down e * down d) (leq-scale s (m * up e * down d) t (n * up d * down e) (down g) h)
      (leq-widen t r (n * up d) (down d) (o * up g) (down g) (down e) (leq-of-le t n d r o g k))))

  in-turn : Leq t (n * up d * down e) s (m * up e * down d) → T (le (fin r o g) (fin t n d)) → Under (square_in f (sub f (fin s m e) (fin t n d))) (square_in f (sub f (fin r o g) (fin s m e)))
  in-turn h k =
      sizes (common s (not t) r (not s) (m * up e) (down e) (n * up d) (down d) (o * up g) (down g)
      (downward s (m * up e * down d * down g) t (n * up d * down e * down g) r (o * up g * down e * down d) (leq-scale t (n * up d * down e) s (m * up e * down d) (down g) h)
      (leq-widen r t (o * up g) (down g) (n * up d) (down d) (down e) (leq-of-le r o g t n d k))))

  -- a as computed is at zero or below, and c ≤ p
  left : T (le (sub f (fin s m e) (fin t n d)) nought) → T (le (fin t n d) (fin r o g)) → Under (square_in f (sub f (fin s m e) (fin t n d))) (square_in f (sub f (fin r o g) (fin s m e)))
  left h k = elim (leq-total s (m * up e * down d) t (n * up d * down e)) [ inl x ↦ in_order x k | inr x ↦ elim (sum-ge f s (m * up e * down d) t (n * up d * down e) (down e * down d) x) [ inl y ↦ nothing y | inr y ↦ in_order y k ] ]
    where
      -- then it rounds to zero
      nothing : sum f s (m * up e * down d) (not t) (n * up d * down e) (down e * down d) ≡ round f false (gap s (m * up e * down d) (not t) (n * up d * down e)) (down e * down d)
          → Under (square_in f (sub f (fin s m e) (fin t n d))) (square_in f (sub f (fin r o g) (fin s m e)))
      nothing y =
          let a = gap s (m * up e * down d) (not t) (n * up d * down e) in
          let i : sub f (fin s m e) (fin t n d) ≡ round f false a (down e * down d) = sub-sum f s m e t n d ∙ y in
          under-trans (square_in f (sub f (fin s m e) (fin t n d))) (square_in f nought) (square_in f (sub f (fin r o g) (fin s m e)))
          (rw i (square-under f (round f false a (down e * down d)) nought (round-plus f a (down e * down d)) tt (rw i at h)))
          (square-nought-under f (sub f (fin r o g) (fin s m e)))

  -- it is not, and p ≤ c
  right : T (not (le (sub f (fin s m e) (fin t n d)) nought)) → T (le (fin r o g) (fin t n d)) → Under (square_in f (sub f (fin s m e) (fin t n d))) (square_in f (sub f (fin r o g) (fin s m e)))
  right h k = elim (leq-total s (m * up e * down d) t (n * up d * down e)) [
    | inl x ↦
        absurd (T_not (le (sub f (fin s m e) (fin t n d)) nought) h
        (rw (sub-sum f s m e t n d) (sum-le f s (m * up e * down d) t (n * up d * down e) (down e * down d) (mul-pos (down_pos e) (down_pos d)) x)))
    | inr x ↦ in-turn x k
  ]

-- ---- the law
-- p lies on the far side of the node c from q
abbrev pub far : Format → Float → Float → Float → Bool
far f q c p = cond (le (sub f q c) nought) (le c p) (le p c)

pub far-under : (f : Format) (q c p : Float) → T (finite c) → T (finite p) → T (far f q c p) → Under (square_in f (sub f q c)) (square_in f (sub f p q))
unfolding finite
far-under f q nan p C P h = absurd C
far-under f q (inf t) p C P h = absurd C
far-under f q (fin t n d) nan C P h = absurd P
far-under f q (fin t n d) (inf r) C P h = absurd P
far-under f nan (fin t n d) (fin r o g) C P h = unfold sub mul in under-refl nan
far-under f (inf true) (fin t n d) (fin r o g) C P h = unfold sub mul in under-refl (inf false)
far-under f (inf false) (fin t n d) (fin r o g) C P h = unfold sub mul in under-refl (inf false)
far-under f (fin s m e) (fin t n d) (fin r o g) C P h = go (le (sub f (fin s m e) (fin t n d)) nought) (left f s m e t n d r o g) (right f s m e t n d r o g) h
  where
    go : (b : Bool) → (T b → T (le (fin t n d) (fin r o g)) → Under (square_in f (sub f (fin s m e) (fin t n d))) (square_in f (sub f (fin r o g) (fin s m e))))
        → (T (not b) → T (le (fin r o g) (fin t n d)) → Under (square_in f (sub f (fin s m e) (fin t n d))) (square_in f (sub f (fin r o g) (fin s m e))))
        → T (cond b (le (fin t n d) (fin r o g)) (le (fin r o g) (fin t n d))) → Under (square_in f (sub f (fin s m e) (fin t n d))) (square_in f (sub f (fin r o g) (fin s m e)))
    go true x y k = x tt k
    go false x y k = y tt k

-- by key, as a built tree has its points
far-of-key : (q c p : Float) → T (fits binary32 c) → T (fits binary32 p) → T (finite c) → T (finite p)
    → (le (sub binary32 q c) nought ≡ true → key c ≤ key p) → (le (sub binary32 q c) nought ≡ false → key p ≤ key c) → T (far binary32 q c p)
far-of-key q c p F G C P = go (le (sub binary32 q c) nought)
  where
    go : (b : Bool) → (b ≡ true → key c ≤ key p) → (b ≡ false → key p ≤ key c) → T (cond b (le c p) (le p c))
    go true l r = key-le c p F G (finite_number c C) (finite_number p P) (l refl)
    go false l r = key-le p c G F (finite_number p P) (finite_number c C) (r refl)

-- ---- the law on points, for each of the three axes
-- a point that a tree holds: of f32, and finite
pub record Indexed (p : Point3f) : Type 0 where
  pub fits-x : T (fits binary32 p.x)
  pub fits-y : T (fits binary32 p.y)
  pub fits-z : T (fits binary32 p.z)
  pub finite-x : T (finite p.x)
  pub finite-y : T (finite p.y)
  pub finite-z : T (finite p.z)

axis-fits : (k : ℕ) (p : Point3f) → Indexed p → T (fits binary32 (on k p))
axis-fits zero p h = h.fits-x
axis-fits (suc zero) p h = h.fits-y
axis-fits (suc (suc k)) p h = h.fits-z

axis-finite : (k : ℕ) (p : Point3f) → Indexed p → T (finite (on k p))
axis-finite zero p h = h.finite-x
axis-finite (suc zero) p h = h.finite-y
axis-finite (suc (suc k)) p h = h.finite-z

-- the square of a difference on one axis is under the whole
part-under : (k : ℕ) (q p : Point3f) → Under (square (sub binary32 (on k p) (on k q))) (distance_squared q p)
unfolding distance_squared
part-under zero q p = under-x binary32 (sub binary32 p.x q.x) (sub binary32 p.y q.y) (sub binary32 p.z q.z)
part-under (suc zero) q p = under-y binary32 (sub binary32 p.x q.x) (sub binary32 p.y q.y) (sub binary32 p.z q.z)
part-under (suc (suc k)) q p = under-z binary32 (sub binary32 p.x q.x) (sub binary32 p.y q.y) (sub binary32 p.z q.z)

-- a point on the far side of a node, as a built tree has it, is at no less than the node's plane: whatever its computed distance is below, or at most, a·a is too
pub prune : (k : ℕ) (q n p : Point3f) → Indexed n → Indexed p → (left_is_near (apart k q n) ≡ true → key (on k n) ≤ key (on k p)) → (left_is_near (apart k q n) ≡ false → key (on k p) ≤ key (on k n))
    → Under (square (apart k q n)) (distance_squared q p)
unfolding apart left_is_near
prune k q n p N P l r =
    under-trans (square (apart k q n)) (square (sub binary32 (on k p) (on k q))) (distance_squared q p)
    (far-under binary32 (on k q) (on k n) (on k p) (axis-finite k n N) (axis-finite k p P)
    (far-of-key (on k q) (on k n) (on k p) (axis-fits k n N) (axis-fits k p P) (axis-finite k n N) (axis-finite k p P) l r))
    (part-under k q p)
