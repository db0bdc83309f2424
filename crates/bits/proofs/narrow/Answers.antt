use Rattle.std.proofs.Common.{◌≡◌, ℕ, ◌+◌, ◌-◌, ◌<◌, ◌≤◌, true, false, not, T, sym, ap, ◌∙◌, subst, arith}
use lib.Ieee.{Float, binary32, binary64, fits, is_nan, to_bits, of_bits}
use lib.Ieee.Bits.{of_bits-to_bits, to_bits-lt}
use Rattle.bits.specs.Convert.{narrow}
use Rattle.bits.proofs.Tests.{is-nan, not-nan, no_nan, no_number, number-bits}
use Rattle.bits.proofs.narrow.Goals as goal
use Rattle.bits.proofs.narrow.Goals.{Start}

-- `bits::narrow` meets its contract: the sign is carried over, and the rest is `narrow_magnitude`'s. Assumes nothing.
held : (c : Start) → T (fits binary64 c.args.x)
held c = subst T (sym c.well_formed.0.1) tt

module _ (x : Float) (h : T (fits binary64 x)) (n : T (not (is_nan x))) where
  plain : to_bits binary64 x < 9223372036854775808 → to_bits binary64 x ≤ 9218868437227405312
  plain l = omega (arith, number-bits binary64 x h n)

  minus : 9223372036854775808 ≤ to_bits binary64 x → to_bits binary64 x - 9223372036854775808 ≤ 9218868437227405312
  minus l = omega (arith, number-bits binary64 x h n, to_bits-lt binary64 x h)

zero-before : (r : ℕ) → 0 + r ≡ r
zero-before r = omega arith

joined : (b : ℕ) → 9223372036854775808 ≤ b → 9223372036854775808 + (b - 9223372036854775808) ≡ b
joined b h = omega arith

pub returns-then-x : goal.returns-then-x
unfolding narrow
returns-then-x c = no_number binary32 ∙ sym (ap narrow (is-nan c.args.x c.if-x.true))

pub float_to_bits-b : goal.float_to_bits-b
float_to_bits-b c = not-nan c.args.x c.if-x.false

pub narrow_magnitude-requires : goal.narrow_magnitude-requires
narrow_magnitude-requires c = plain c.args.x (held (goal.at.narrow_magnitude-requires c).Start) (not-nan c.args.x c.if-x.false) c.if-b-lt9223372036854775808.true

pub narrow_magnitude-requires-else-b-lt9223372036854775808 : goal.narrow_magnitude-requires-else-b-lt9223372036854775808
narrow_magnitude-requires-else-b-lt9223372036854775808 c = minus c.args.x (held (goal.at.narrow_magnitude-requires-else-b-lt9223372036854775808 c).Start) (not-nan c.args.x c.if-x.false) c.if-b-lt9223372036854775808.false

pub float_from_bits-result : goal.float_from_bits-result
float_from_bits-result c = no_nan binary32 _ (omega (arith, c.narrow_magnitude.ensures.0))

pub float_from_bits-result-else-b-lt9223372036854775808 : goal.float_from_bits-result-else-b-lt9223372036854775808
float_from_bits-result-else-b-lt9223372036854775808 c = no_nan binary32 _ (omega (arith, c.narrow_magnitude-else-b-lt9223372036854775808.ensures.0))

pub returns-then-b-lt9223372036854775808 : goal.returns-then-b-lt9223372036854775808
returns-then-b-lt9223372036854775808 c =
    let x = c.args.x in
    ap (λ (r : ℕ). of_bits binary32 r) (sym (zero-before c.narrow_magnitude.result))
    ∙ c.narrow_magnitude.ensures.1 false
    ∙ ap (λ (b : ℕ). narrow (of_bits binary64 b)) (zero-before (to_bits binary64 x))
    ∙ ap narrow (of_bits-to_bits binary64 x (held (goal.at.returns-then-b-lt9223372036854775808 c).Start))

pub returns-else-b-lt9223372036854775808 : goal.returns-else-b-lt9223372036854775808
returns-else-b-lt9223372036854775808 c =
    let x = c.args.x in
    c.narrow_magnitude-else-b-lt9223372036854775808.ensures.1 true
    ∙ ap (λ (b : ℕ). narrow (of_bits binary64 b)) (joined (to_bits binary64 x) c.if-b-lt9223372036854775808.false)
    ∙ ap narrow (of_bits-to_bits binary64 x (held (goal.at.returns-else-b-lt9223372036854775808 c).Start))
