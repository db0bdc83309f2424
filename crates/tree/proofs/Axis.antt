-- "Axis is depth mod 3": the axis d levels below axis 0, and one level deeper as code computes it. Assumes nothing.
use mathlib.Core.Path.{◌≡◌, refl}
use Prim.Native.Nat.{ℕ, zero, suc, ◌+◌, ◌%◌, ◌≤◌, ◌<◌}
use native.Mathlib.Omega.{arith}
use Rattle.tree.specs.Grow.{next_axis}

pub axis-small : (a : ℕ) → next_axis a < 3
axis-small zero = omega arith
axis-small (suc zero) = omega arith
axis-small (suc (suc a)) = omega arith

pub axis-up : (a : ℕ) → a < 2 → a + 1 ≡ next_axis a
axis-up zero h = refl
axis-up (suc zero) h = refl
axis-up (suc (suc a)) h = absurd (omega arith)

pub axis-back : (a : ℕ) → 2 ≤ a → 0 ≡ next_axis a
axis-back zero h = absurd (omega arith)
axis-back (suc zero) h = absurd (omega arith)
axis-back (suc (suc a)) h = refl

-- the axis at a depth
abbrev pub axis_at : ℕ → ℕ
axis_at zero = 0
axis_at (suc d) = next_axis (axis_at d)

next-mod : (d a : ℕ) → a ≡ d % 3 → next_axis a ≡ suc d % 3
next-mod d zero e = omega arith
next-mod d (suc zero) e = omega arith
next-mod d (suc (suc a)) e = omega arith

pub axis-is : (d : ℕ) → axis_at d ≡ d % 3
axis-is zero = refl
axis-is (suc d) = next-mod d (axis_at d) (axis-is d)
