-- `bits::root::root_bits` meets its contract. Assumes nothing.
use Rattle.std.proofs.Common.{◌≡◌, ◌<◌, ℕ, sym, ◌∙◌, subst, le-add_right, lt_of_le_of_lt, arith}
use native.Mathlib.Nat.{pow-succ'}
use lib.Ieee.{prec}
use Rattle.bits.proofs.RootCode.{Found, sum_fits, rounds-up, rounds-down}
use Rattle.bits.proofs.RootScaled.{Roomy, roomy}
use Rattle.bits.proofs.root.root_bits.Goals as goal
use Rattle.bits.proofs.root.root_bits.Goals.{After-first-d, After-ilog2-top}
use Rattle.bits.proofs.root.root_bits.Given.{Over}

precision : (g : Over) (c : After-ilog2-top g) → prec g.F.Binary.format ≡ c.PRECISION-p.result
precision g c = g.F.Binary.precision_is ∙ sym c.PRECISION-p.ensures

inside : (g : Over) (c : After-ilog2-top g) → Roomy c.PRECISION-p.result c.to_scaled-n.result.digits c.to_scaled-n.result.exponent
inside g c = roomy g.F.Binary.format c.args.b _ _ _ (precision g c) c.to_scaled-n.ensures

-- what is known once the digits are found
found : (g : Over) (c : After-first-d g)
    → Found c.PRECISION-p.result c.to_scaled-n.result.digits c.to_scaled-n.result.exponent c.ilog2-top.result c.first-d.result.root c.first-d.result.rest c.first-d.result.ahead
found g c =
    let k = inside g (goal.at-After-first-d g c).After-ilog2-top in
    record {
      few = k.few;
      held = k.held;
      room = k.room;
      bound = k.bound;
      lo = c.ilog2-top.ensures.power_le;
      hi = subst (λ (x : ℕ). c.to_scaled-n.result.digits < x) (sym (pow-succ' 2 c.ilog2-top.result)) c.ilog2-top.ensures.next_power_gt;
      digits = c.first-d.ensures.number.number;
      small = c.first-d.ensures.number.largest;
      fitting = c.first-d.ensures.length;
      ahead = omega arith;
    }

pub overflow_add-bits : goal.overflow_add-bits
overflow_add-bits g c = record { fits = lt_of_le_of_lt (le-add_right _ 1) (sum_fits _ _ _ _ _ _ _ (found g (goal.at.overflow_add-bits g c).After-first-d)) }

pub returns-then-d : goal.returns-then-d
returns-then-d g c =
    let s = c.to_scaled-n.ensures in
    rounds-up g.F.Binary.format _ _ _ _ _ _ _ _ (precision g (goal.at.returns-then-d g c).After-ilog2-top) s.most s.value (found g (goal.at.returns-then-d g c).After-first-d) c.if-d.true

pub returns-else-d : goal.returns-else-d
returns-else-d g c =
    let s = c.to_scaled-n.ensures in
    rounds-down g.F.Binary.format _ _ _ _ _ _ _ _ (precision g (goal.at.returns-else-d g c).After-ilog2-top) s.most s.value (found g (goal.at.returns-else-d g c).After-first-d) c.if-d.false
