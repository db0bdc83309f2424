-- The size `gap` of a sum of two signed numbers. Of three numbers in order the outer two are as far apart as the first two at least. Nothing here is about floats.
use mathlib.Core.Path.{◌≡◌, sym, ap, ◌∙◌}
use Prim.Native.Nat.{ℕ, ◌+◌, ◌-◌, ◌*◌, ◌≤◌}
use native.Mathlib.Nat.{le_trans, le_of_eq, mul_comm, mul_assoc, mul_right_comm, mul-sub, add-mul, mul-le-mul_right}
use native.Mathlib.Omega.{arith}
use mathlib.Core.Bool.{Bool, true, false, not, beq, cond}
use Rattle.bits.proofs.Signed.{Leq}
use Rattle.space.specs.Exact.{gap}

sub-scale : (a b k : ℕ) → (a - b) * k ≡ a * k - b * k
sub-scale a b k = mul_comm (a - b) k ∙ mul-sub k a b ∙ ap (λ (x : ℕ). x - k * b) (mul_comm k a) ∙ ap (λ (x : ℕ). a * k - x) (mul_comm k b)

pub gap-scale : (s : Bool) (a : ℕ) (t : Bool) (b k : ℕ) → gap s a t b * k ≡ gap s (a * k) t (b * k)
gap-scale s a t b k = go (beq s t)
  where
    go : (e : Bool) → cond e (a + b) ((a - b) + (b - a)) * k ≡ cond e (a * k + b * k) ((a * k - b * k) + (b * k - a * k))
    go true = add-mul a b k
    go false = add-mul (a - b) (b - a) k ∙ ap (λ (x : ℕ). x + (b - a) * k) (sub-scale a b k) ∙ ap (λ (x : ℕ). (a * k - b * k) + x) (sub-scale b a k)

-- q ≤ c ≤ p: q - c is no larger than p - q
pub upward : (s : Bool) (q : ℕ) (t : Bool) (c : ℕ) (r : Bool) (p : ℕ) → Leq s q t c → Leq t c r p → gap s q (not t) c ≤ gap r p (not s) q
upward false q false c false p h k = omega arith
upward false q false c true p h k = omega arith
upward false q true c false p h k = omega arith
upward false q true c true p h k = omega arith
upward true q false c false p h k = omega arith
upward true q false c true p h k = omega arith
upward true q true c false p h k = omega arith
upward true q true c true p h k = omega arith

-- and p ≤ c ≤ q
pub downward : (s : Bool) (q : ℕ) (t : Bool) (c : ℕ) (r : Bool) (p : ℕ) → Leq t c s q → Leq r p t c → gap s q (not t) c ≤ gap r p (not s) q
downward false q false c false p h k = omega arith
downward false q false c true p h k = omega arith
downward false q true c false p h k = omega arith
downward false q true c true p h k = omega arith
downward true q false c false p h k = omega arith
downward true q false c true p h k = omega arith
downward true q true c false p h k = omega arith
downward true q true c true p h k = omega arith

-- ---- the same of three fractions Q / E, C / D and P / G, over their common denominator
pub common : (s : Bool) (t : Bool) (r : Bool) (w : Bool) (Q E C D P G : ℕ) → gap s (Q * D * G) t (C * E * G) ≤ gap r (P * E * D) w (Q * D * G) → gap s (Q * D) t (C * E) * (G * E) ≤ gap r (P * E) w (Q * G) * (E * D)
common s t r w Q E C D P G h =
    le_trans (le_of_eq (sym (mul_assoc (gap s (Q * D) t (C * E)) G E) ∙ ap (λ (x : ℕ). x * E) (gap-scale s (Q * D) t (C * E) G)))
    (le_trans (mul-le-mul_right E h)
    (le_of_eq (ap (λ (x : ℕ). gap r (P * E * D) w x * E) (mul_right_comm Q D G)
    ∙ ap (λ (x : ℕ). x * E) (sym (gap-scale r (P * E) w (Q * G) D))
    ∙ mul_assoc (gap r (P * E) w (Q * G)) D E
    ∙ ap (λ (x : ℕ). gap r (P * E) w (Q * G) * x) (mul_comm D E))))
