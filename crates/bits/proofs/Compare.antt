-- The laws of `le` and `lt` on all values, of either format: `le` is transitive; of two numbers, that is no NaN, one is `le` the other; and among numbers `lt` is what is not `le` the other way.
use Rattle.std.proofs.Common.{◌≡◌, ℕ, ◌+◌, ◌*◌, ◌<◌, ◌≤◌, Bool, true, false, not, ◌&&◌, ◌||◌, T, eqb, ltb, ◌⊎◌, ◌↔◌, ℤ, sym, refl, ap, ◌∙◌, inl, inr, le_of_eq, le_of_lt as ℕ-le-of-lt, mul_assoc, mul_comm, eq-zero-or-pos, eq-or-lt_of_le, mul-pos, lt_of_not-le, mul_right_comm, not-le_of_lt, arith, eqb→eq, ltb→lt, lt→ltb, T_not}
use mathlib.Core.Bool.{beq}
use lib.Dec.{not_T}
use lib.Ieee.{Float, nan, inf, fin, up, down, below, lt, le, is_nan}
use lib.Ieee.Fits.{down_pos, and_l, and_r, and_i, eq→eqb}
use lib.Ieee.Exact.{HasValue}
use Rattle.bits.specs.Finite.{finite}
use Rattle.bits.proofs.Signed.{Leq, leq-scale, leq-unscale, leq-total, leq-through}

-- ---- tests
or_split : (a b : Bool) → T (a || b) → T a ⊎ T b
or_split true b t = inl tt
or_split false b t = inr t

or_l : (a b : Bool) → T a → T (a || b)
or_l true b t = tt
or_l false b t = absurd t

or_r : (a b : Bool) → T b → T (a || b)
or_r true b t = tt
or_r false b t = t

-- ---- two finite values: `le` is the order of signed numbers, and `below` its strict one
pub leq-of-le : (s : Bool) (m : ℕ) (e : ℤ) (t : Bool) (n : ℕ) (d : ℤ) → T (le (fin s m e) (fin t n d)) → Leq s (m * up e * down d) t (n * up d * down e)
unfolding le
leq-of-le s m e t n d = go s (m * up e * down d) t (n * up d * down e)
  where
    go : (s : Bool) (a : ℕ) (t : Bool) (b : ℕ) → T (below s a t b || (eqb a b && (beq s t || eqb a 0))) → Leq s a t b
    go false a false b h = elim (or_split (ltb a b) (eqb a b && true) h) [ inl u ↦ ℕ-le-of-lt (ltb→lt a b u) | inr u ↦ le_of_eq (eqb→eq a b (and_l (eqb a b) true u)) ]
    go false a true b h =
        let x : a ≡ b = eqb→eq a b (and_l (eqb a b) (eqb a 0) h) in
        let y : a ≡ 0 = eqb→eq a 0 (and_r (eqb a b) (eqb a 0) h) in
        omega arith
    go true a false b h = tt
    go true a true b h = elim (or_split (ltb b a) (eqb a b && true) h) [ inl u ↦ ℕ-le-of-lt (ltb→lt b a u) | inr u ↦ le_of_eq (sym (eqb→eq a b (and_l (eqb a b) true u))) ]

pub le-of-leq : (s : Bool) (m : ℕ) (e : ℤ) (t : Bool) (n : ℕ) (d : ℤ) → Leq s (m * up e * down d) t (n * up d * down e) → T (le (fin s m e) (fin t n d))
unfolding le
le-of-leq s m e t n d = go s (m * up e * down d) t (n * up d * down e)
  where
    none : (a b : ℕ) → a + b ≤ 0 → (a ≡ b) × (a ≡ 0)
    none a b h = omega arith

    some : (a b : ℕ) → (a + b ≡ 0) ⊎ (0 < a + b) → T (ltb 0 (a + b) || (eqb a b && (false || eqb a 0)))
    some a b (inl z) =
        let y = none a b (le_of_eq z) in
        or_r (ltb 0 (a + b)) (eqb a b && eqb a 0) (and_i (eqb a b) (eqb a 0) (eq→eqb y.0) (eq→eqb y.1))
    some a b (inr p) = or_l (ltb 0 (a + b)) (eqb a b && eqb a 0) (lt→ltb 0 (a + b) p)

    go : (s : Bool) (a : ℕ) (t : Bool) (b : ℕ) → Leq s a t b → T (below s a t b || (eqb a b && (beq s t || eqb a 0)))
    go false a false b h = elim (eq-or-lt_of_le h) [ inl p ↦ or_r (ltb a b) (eqb a b && true) (and_i (eqb a b) true (eq→eqb p) tt) | inr p ↦ or_l (ltb a b) (eqb a b && true) (lt→ltb a b p) ]
    go false a true b h = and_i (eqb a b) (eqb a 0) (eq→eqb (none a b h).0) (eq→eqb (none a b h).1)
    go true a false b h = some a b (eq-zero-or-pos (a + b))
    go true a true b h = elim (eq-or-lt_of_le h) [ inl p ↦ or_r (ltb b a) (eqb a b && true) (and_i (eqb a b) true (eq→eqb (sym p)) tt) | inr p ↦ or_l (ltb b a) (eqb a b && true) (lt→ltb b a p) ]

-- two values by the numbers of units of 1 / l that they are
units-cross : (x k l a j : ℕ) → x * l ≡ a * j → x * k * l ≡ a * (j * k)
units-cross x k l a j e = mul_right_comm x k l ∙ ap (λ (z : ℕ). z * k) e ∙ mul_assoc a j k

pub units-le : (x y : Float) (s t : Bool) (a b l : ℕ) → 0 < l → HasValue x s a l → HasValue y t b l → T (le x y) ↔ Leq s a t b
units-le nan y s t a b l L p q = absurd p
units-le (inf v) y s t a b l L p q = absurd p
units-le (fin v m e) nan s t a b l L p q = absurd q
units-le (fin v m e) (inf w) s t a b l L p q = absurd q
units-le (fin v m e) (fin w n d) s t a b l L p q =
    let k = down e * down d in
    let i : m * up e * down d * l ≡ a * k = units-cross (m * up e) (down d) l a (down e) p.1 in
    let j : n * up d * down e * l ≡ b * k = units-cross (n * up d) (down e) l b (down d) q.1 ∙ ap (λ (z : ℕ). b * z) (mul_comm (down d) (down e)) in
    rw (p.0, q.0) (
      λ h. leq-unscale s a t b k (mul-pos (down_pos e) (down_pos d)) (rw (i, j) at (leq-scale s (m * up e * down d) t (n * up d * down e) l (leq-of-le s m e t n d h))),
      λ h. le-of-leq s m e t n d (leq-unscale s (m * up e * down d) t (n * up d * down e) l L (rw (i, j) (leq-scale s a t b k h))),
    )

below-not : (s : Bool) (a : ℕ) (t : Bool) (b : ℕ) → T (below s a t b) → Leq t b s a → ⊥
below-not false a false b h k = not-le_of_lt (ltb→lt a b h) k
below-not false a true b h k = h
below-not true a false b h k =
    let x : 0 < a + b = ltb→lt 0 (a + b) h in
    omega arith
below-not true a true b h k = not-le_of_lt (ltb→lt b a h) k

not-below : (s : Bool) (a : ℕ) (t : Bool) (b : ℕ) → (Leq t b s a → ⊥) → T (below s a t b)
not-below false a false b f = lt→ltb a b (lt_of_not-le f)
not-below false a true b f = f tt
not-below true a false b f = lt→ltb 0 (a + b) (lt_of_not-le (λ (x : a + b ≤ 0). f (swap x)))
  where
    swap : a + b ≤ 0 → b + a ≤ 0
    swap x = omega arith
not-below true a true b f = lt→ltb b a (lt_of_not-le f)

-- ---- all values
-- no NaN
abbrev pub number : Float → Bool
number nan = false
number (inf s) = true
number (fin s m e) = true

pub number_is : (x : Float) → number x ≡ not (is_nan x)
unfolding is_nan
number_is nan = refl
number_is (inf s) = refl
number_is (fin s m e) = refl

pub finite_number : (x : Float) → T (finite x) → T (number x)
unfolding finite
finite_number nan h = h
finite_number (inf s) h = tt
finite_number (fin s m e) h = tt

-- the sign is clear, so no -0 either; or it is a NaN
abbrev pub plus : Float → Bool
plus nan = true
plus (inf s) = not s
plus (fin s m e) = not s

pub le-number-l : (x y : Float) → T (le x y) → T (number x)
unfolding le
le-number-l nan y h = h
le-number-l (inf s) y h = tt
le-number-l (fin s m e) y h = tt

pub le-number-r : (x y : Float) → T (le x y) → T (number y)
unfolding le
le-number-r nan y h = absurd h
le-number-r (inf s) nan h = h
le-number-r (inf s) (inf t) h = tt
le-number-r (inf s) (fin t n d) h = tt
le-number-r (fin s m e) nan h = h
le-number-r (fin s m e) (inf t) h = tt
le-number-r (fin s m e) (fin t n d) h = tt

pub lt-number-l : (x y : Float) → T (lt x y) → T (number x)
unfolding lt
lt-number-l nan y h = h
lt-number-l (inf s) y h = tt
lt-number-l (fin s m e) y h = tt

pub lt-number-r : (x y : Float) → T (lt x y) → T (number y)
unfolding lt
lt-number-r nan y h = absurd h
lt-number-r (inf s) nan h = h
lt-number-r (inf s) (inf t) h = tt
lt-number-r (inf s) (fin t n d) h = tt
lt-number-r (fin s m e) nan h = h
lt-number-r (fin s m e) (inf t) h = tt
lt-number-r (fin s m e) (fin t n d) h = tt

-- the infinities are the ends
pub bottom : (x : Float) → T (number x) → T (le (inf true) x)
unfolding le
bottom nan h = h
bottom (inf true) h = tt
bottom (inf false) h = tt
bottom (fin s m e) h = tt

pub highest : (x : Float) → T (number x) → T (le x (inf false))
unfolding le
highest nan h = h
highest (inf true) h = tt
highest (inf false) h = tt
highest (fin s m e) h = tt

pub le_trans : (x y z : Float) → T (le x y) → T (le y z) → T (le x z)
unfolding le
le_trans nan y z h k = absurd h
le_trans (inf true) y z h k = bottom z (le-number-r y z k)
le_trans (inf false) nan z h k = absurd h
le_trans (inf false) (inf true) z h k = absurd h
le_trans (inf false) (inf false) z h k = k
le_trans (inf false) (fin t n d) z h k = absurd h
le_trans (fin s m e) nan z h k = absurd h
le_trans (fin s m e) (inf true) z h k = absurd h
le_trans (fin s m e) (inf false) nan h k = absurd k
le_trans (fin s m e) (inf false) (inf true) h k = absurd k
le_trans (fin s m e) (inf false) (inf false) h k = tt
le_trans (fin s m e) (inf false) (fin u o g) h k = absurd k
le_trans (fin s m e) (fin t n d) nan h k = absurd k
le_trans (fin s m e) (fin t n d) (inf u) h k = k
le_trans (fin s m e) (fin t n d) (fin u o g) h k =
    le-of-leq s m e u o g (leq-through s t u (m * up e) (n * up d) (o * up g) (down e) (down d) (down g) (down_pos d) (leq-of-le s m e t n d h) (leq-of-le t n d u o g k))

pub le_total : (x y : Float) → T (number x) → T (number y) → T (le x y) ⊎ T (le y x)
le_total nan y h k = absurd h
le_total (inf true) y h k = inl (bottom y k)
le_total (inf false) y h k = inr (highest y k)
le_total (fin s m e) nan h k = absurd k
le_total (fin s m e) (inf true) h k = inr (bottom (fin s m e) tt)
le_total (fin s m e) (inf false) h k = inl (highest (fin s m e) tt)
le_total (fin s m e) (fin t n d) h k = elim (leq-total s (m * up e * down d) t (n * up d * down e)) [ inl x ↦ inl (le-of-leq s m e t n d x) | inr x ↦ inr (le-of-leq t n d s m e x) ]

pub le_refl : (x : Float) → T (number x) → T (le x x)
le_refl x h = elim (le_total x x h h) [ inl a ↦ a | inr a ↦ a ]

pub lt_not_le : (x y : Float) → T (lt x y) → T (le y x) → ⊥
unfolding lt le
lt_not_le nan y h k = h
lt_not_le (inf s) nan h k = h
lt_not_le (inf true) (inf true) h k = h
lt_not_le (inf true) (inf false) h k = k
lt_not_le (inf false) (inf t) h k = h
lt_not_le (inf true) (fin t n d) h k = k
lt_not_le (inf false) (fin t n d) h k = h
lt_not_le (fin s m e) nan h k = h
lt_not_le (fin s m e) (inf true) h k = h
lt_not_le (fin s m e) (inf false) h k = k
lt_not_le (fin s m e) (fin t n d) h k = below-not s (m * up e * down d) t (n * up d * down e) h (leq-of-le t n d s m e k)

pub lt_of_not_ge : (x y : Float) → T (number x) → T (number y) → (T (le y x) → ⊥) → T (lt x y)
unfolding lt
lt_of_not_ge nan y h k f = h
lt_of_not_ge (inf s) nan h k f = k
lt_of_not_ge (inf true) (inf true) h k f = f (bottom (inf true) tt)
lt_of_not_ge (inf true) (inf false) h k f = tt
lt_of_not_ge (inf false) (inf t) h k f = f (highest (inf t) tt)
lt_of_not_ge (inf true) (fin t n d) h k f = tt
lt_of_not_ge (inf false) (fin t n d) h k f = f (highest (fin t n d) tt)
lt_of_not_ge (fin s m e) nan h k f = k
lt_of_not_ge (fin s m e) (inf true) h k f = f (bottom (fin s m e) tt)
lt_of_not_ge (fin s m e) (inf false) h k f = tt
lt_of_not_ge (fin s m e) (fin t n d) h k f = not-below s (m * up e * down d) t (n * up d * down e) (λ (x : Leq t (n * up d * down e) s (m * up e * down d)). f (le-of-leq t n d s m e x))

-- ---- what follows from these
pub le_of_lt : (x y : Float) → T (lt x y) → T (le x y)
le_of_lt x y h = elim (le_total x y (lt-number-l x y h) (lt-number-r x y h)) [ inl a ↦ a | inr a ↦ absurd (lt_not_le x y h a) ]

pub le_of_not_lt : (x y : Float) → T (number x) → T (number y) → T (not (lt x y)) → T (le y x)
le_of_not_lt x y p q h = go (le y x) (lt_of_not_ge x y p q)
  where
    go : (b : Bool) → ((T b → ⊥) → T (lt x y)) → T b
    go true f = tt
    go false f = T_not (lt x y) h (f (λ (z : ⊥). z))

pub lt_irrefl : (x : Float) → T (lt x x) → ⊥
lt_irrefl x h = lt_not_le x x h (le_refl x (lt-number-l x x h))

pub le_lt_trans : (x y z : Float) → T (le x y) → T (lt y z) → T (lt x z)
le_lt_trans x y z h k = lt_of_not_ge x z (le-number-l x y h) (lt-number-r y z k) (λ (g : T (le z x)). lt_not_le y z k (le_trans z x y g h))

pub lt-le-trans : (x y z : Float) → T (lt x y) → T (le y z) → T (lt x z)
lt-le-trans x y z h k = lt_of_not_ge x z (lt-number-l x y h) (le-number-r y z k) (λ (g : T (le z x)). lt_not_le x y h (le_trans y z x k g))

pub lt_trans : (x y z : Float) → T (lt x y) → T (lt y z) → T (lt x z)
lt_trans x y z h k = le_lt_trans x y z (le_of_lt x y h) k

-- what lies between two that are in order is on one side or the other
pub lt-either : (x y z : Float) → T (number y) → T (lt x z) → T (lt x y) ⊎ T (lt y z)
lt-either x y z n h = go (lt x y) (λ (u : T (not (lt x y))). le_lt_trans y x z (le_of_not_lt x y (lt-number-l x z h) n u) h)
  where
    go : (b : Bool) → (T (not b) → T (lt y z)) → T b ⊎ T (lt y z)
    go true f = inl tt
    go false f = inr (f tt)

-- not below is transitive among numbers
pub not-lt-trans : (x y z : Float) → T (number y) → T (not (lt x y)) → T (not (lt y z)) → T (not (lt x z))
not-lt-trans x y z n h k = not_T (lt x z) (λ (t : T (lt x z)). elim (lt-either x y z n t) [ inl u ↦ T_not (lt x y) h u | inr u ↦ T_not (lt y z) k u ])
