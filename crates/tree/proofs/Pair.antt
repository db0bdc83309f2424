-- Two numbers as one, the second below 2 ^ 32: it orders by the first, equals by the second. Assumes nothing.
use mathlib.Core.Path.{◌≡◌}
use Prim.Native.Nat.{ℕ, ◌+◌, ◌*◌, ◌^◌, ◌≤◌, ◌<◌}
use native.Mathlib.Omega.{arith}

abbrev pub pair : ℕ → ℕ → ℕ
pair a i = a * 2 ^ 32 + i

pub pair-second : (a b i j : ℕ) → a ≤ b → i < j → pair a i < pair b j
pair-second a b i j h k = omega arith

pub pair-first : (a b i j : ℕ) → a < b → i < 2 ^ 32 → pair a i < pair b j
pair-first a b i j h k = omega arith

pub pair-le : (a b i j : ℕ) → j < 2 ^ 32 → pair a i ≤ pair b j → a ≤ b
pair-le a b i j h k = omega arith

pub pair_same : (a b i j : ℕ) → i < 2 ^ 32 → j < 2 ^ 32 → pair a i ≡ pair b j → i ≡ j
pair_same a b i j h k e = omega arith
