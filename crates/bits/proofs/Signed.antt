-- Signed numbers, each a sign and a size, and their order `Leq`. Nothing here is about floats.
use Rattle.std.proofs.Common.{ℕ, ◌+◌, ◌*◌, ◌<◌, ◌≤◌, Bool, true, false, not, T, ltb, ◌⊎◌, sym, subst, inl, inr, le_trans, le_of_eq, le_of_lt, mul-le-mul_right, add-mul, zero-mul, mul_right_comm, le_of_mul-le-mul_right, arith, ltb→lt, nltb→le}

-- ±a ≤ ±b
abbrev pub Leq : Bool → ℕ → Bool → ℕ → Type 0
Leq false a false b = a ≤ b
Leq false a true b = a + b ≤ 0
Leq true a false b = Unit {0}
Leq true a true b = b ≤ a

pub leq-scale : (s : Bool) (a : ℕ) (t : Bool) (b k : ℕ) → Leq s a t b → Leq s (a * k) t (b * k)
leq-scale false a false b k h = mul-le-mul_right k h
leq-scale false a true b k h = le_trans (le_of_eq (sym (add-mul a b k))) (le_trans (mul-le-mul_right k h) (le_of_eq (zero-mul k)))
leq-scale true a false b k h = tt
leq-scale true a true b k h = mul-le-mul_right k h

either : (a b : ℕ) → (a ≤ b) ⊎ (b ≤ a)
either a b = go (ltb a b) (ltb→lt a b) (nltb→le a b)
  where
    go : (t : Bool) → (T t → a < b) → (T (not t) → b ≤ a) → (a ≤ b) ⊎ (b ≤ a)
    go true h k = inl (le_of_lt (h tt))
    go false h k = inr (k tt)

pub leq-total : (s : Bool) (a : ℕ) (t : Bool) (b : ℕ) → Leq s a t b ⊎ Leq t b s a
leq-total false a false b = either a b
leq-total false a true b = inr tt
leq-total true a false b = inl tt
leq-total true a true b = either b a

pub leq-unscale : (s : Bool) (a : ℕ) (t : Bool) (b k : ℕ) → 0 < k → Leq s (a * k) t (b * k) → Leq s a t b
leq-unscale false a false b k K h = le_of_mul-le-mul_right h K
leq-unscale false a true b k K h = le_of_mul-le-mul_right (le_trans (le_of_eq (add-mul a b k)) (le_trans h (le_of_eq (sym (zero-mul k))))) K
leq-unscale true a false b k K h = tt
leq-unscale true a true b k K h = le_of_mul-le-mul_right h K

pub leq-trans : (s : Bool) (a : ℕ) (t : Bool) (b : ℕ) (u : Bool) (c : ℕ) → Leq s a t b → Leq t b u c → Leq s a u c
leq-trans false a false b false c h k = omega arith
leq-trans false a false b true c h k = omega arith
leq-trans false a true b false c h k = omega arith
leq-trans false a true b true c h k = omega arith
leq-trans true a t b false c h k = tt
leq-trans true a false b true c h k = omega arith
leq-trans true a true b true c h k = omega arith

-- ±x / p ≤ ±y / q ≤ ±z / r
pub leq-through : (s t u : Bool) (x y z p q r : ℕ) → 0 < q → Leq s (x * q) t (y * p) → Leq t (y * r) u (z * q) → Leq s (x * r) u (z * p)
leq-through s t u x y z p q r Q h k =
    leq-unscale s (x * r) u (z * p) q Q
    (leq-trans s (x * r * q) t (y * p * r) u (z * p * q)
    (subst (λ (v : ℕ). Leq s v t (y * p * r)) (mul_right_comm x q r) (leq-scale s (x * q) t (y * p) r h))
    (subst (λ (v : ℕ). Leq t v u (z * p * q)) (mul_right_comm y r p) (subst (λ (v : ℕ). Leq t (y * r * p) u v) (mul_right_comm z q p) (leq-scale t (y * r) u (z * q) p k))))

-- ±C / D ≤ ±P / G, over a denominator more
pub leq-widen : (t r : Bool) (C D P G E : ℕ) → Leq t (C * G) r (P * D) → Leq t (C * E * G) r (P * E * D)
leq-widen t r C D P G E h = subst (λ (x : ℕ). Leq t x r (P * E * D)) (mul_right_comm C G E) (subst (λ (x : ℕ). Leq t (C * G * E) r x) (mul_right_comm P D E) (leq-scale t (C * G) r (P * D) E h))
