use Rattle.std.proofs.Common.{◌≡◌, ℕ, ◌+◌, ◌-◌, ◌*◌, ◌/◌, ◌%◌, ◌^◌, ◌<◌, ◌≤◌, sym, ap, ◌∙◌, le_of_eq, lt_of_lt_of_le, lt_of_le_of_lt, mod-eq_of_lt, one-mul, arith, lit≤, pow_pos, pow_mono}
use lib.Ieee.Nearest.{closest}
use Rattle.bits.proofs.Narrowing.{narrow-large, narrow-normal, narrow-small, narrow-tiny, kept-fits}
use Rattle.bits.proofs.narrow_magnitude.Goals as goal
use Rattle.bits.proofs.narrow_magnitude.Goals.{After-rounded, After-rounded-then-field-gt872}

-- `bits::narrow_magnitude` meets its contract: its four arms are the four cases of the exponent's field. Assumes nothing.
-- the shifted one is a power of two, which a u64 holds
below : (r : ℕ) → r ≤ 53 → 2 ^ r < 9223372036854775808
below r h = lt_of_le_of_lt (pow_mono h) (lit≤ tt)

shifted : (r : ℕ) → r ≤ 53 → 1 * 2 ^ r % 18446744073709551616 ≡ 2 ^ r
shifted r h = ap (λ (z : ℕ). z % 18446744073709551616) (one-mul (2 ^ r)) ∙ mod-eq_of_lt (lt_of_lt_of_le (below r h) (lit≤ tt))

unit-pos : (r : ℕ) → r ≤ 53 → 0 < 1 * 2 ^ r % 18446744073709551616
unit-pos r h = lt_of_lt_of_le (pow_pos r) (le_of_eq (sym (shifted r h)))

unit-lt : (r : ℕ) → r ≤ 53 → 1 * 2 ^ r % 18446744073709551616 < 9223372036854775808
unit-lt r h = lt_of_le_of_lt (le_of_eq (shifted r h)) (below r h)

by-power : (q m r : ℕ) → r ≤ 53 → q ≡ closest m (1 * 2 ^ r % 18446744073709551616) → q ≡ closest m (2 ^ r)
by-power q m r h e = e ∙ ap (λ (u : ℕ). closest m u) (shifted r h)

digits_in : (a : ℕ) → a % 4503599627370496 < 4503599627370496
digits_in a = omega arith

module _ (c : After-rounded) where
  kept : c.rounded.result ≤ 16777216
  kept = kept-fits (c.args.a % 4503599627370496) 29 c.rounded.result (digits_in c.args.a) (lit≤ tt) c.rounded.ensures

module _ (c : After-rounded-then-field-gt872) where
  power : c.rounded-then-field-gt872.result ≡ closest (4503599627370496 + c.args.a % 4503599627370496) (2 ^ (926 - c.args.a / 4503599627370496))
  power = by-power c.rounded-then-field-gt872.result (4503599627370496 + c.args.a % 4503599627370496) (926 - c.args.a / 4503599627370496) (omega arith) c.rounded-then-field-gt872.ensures

  kept2 : c.rounded-then-field-gt872.result ≤ 16777216
  kept2 =
      kept-fits (c.args.a % 4503599627370496) (926 - c.args.a / 4503599627370496) c.rounded-then-field-gt872.result (digits_in c.args.a) (omega arith) power

pub overflow_cast-result : goal.overflow_cast-result
overflow_cast-result c = omega (arith, kept c)

pub overflow_add-result : goal.overflow_add-result
overflow_add-result c = omega (arith, kept c)

pub rounded-requires-then-field-gt872 : goal.rounded-requires-then-field-gt872
rounded-requires-then-field-gt872 c = (unit-pos _ (omega arith), omega arith, unit-lt _ (omega arith))

pub overflow_cast-result-then-field-gt872 : goal.overflow_cast-result-then-field-gt872
overflow_cast-result-then-field-gt872 c = omega (arith, kept2 c)

pub returns-then-field-ge1151 : goal.returns-then-field-ge1151
returns-then-field-ge1151 c = (omega arith, λ s. narrow-large c.args.a c.requires s (omega arith))

pub returns-then-field-ge897 : goal.returns-then-field-ge897
returns-then-field-ge897 c = (
  omega (arith, kept c),
  λ s. narrow-normal c.args.a c.requires s c.rounded.result c.rounded.ensures (omega arith) (omega arith),
)

pub returns-then-field-gt872 : goal.returns-then-field-gt872
returns-then-field-gt872 c = (
  omega (arith, kept2 c),
  λ s. narrow-small c.args.a c.requires s c.rounded-then-field-gt872.result (power c) (omega arith) (omega arith),
)

pub returns-else-field-gt872 : goal.returns-else-field-gt872
returns-else-field-gt872 c = (omega arith, λ s. narrow-tiny c.args.a c.requires s (omega arith))
