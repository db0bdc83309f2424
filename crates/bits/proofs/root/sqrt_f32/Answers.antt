use Rattle.std.proofs.Common.{◌≡◌, T, sym, ap, ◌∙◌, subst, arith}
use lib.Ieee.{Float, binary32, to_bits, fits}
use lib.Ieee.Bits.{of_bits-to_bits, to_bits-lt}
use Rattle.bits.specs.Root.{root}
use Rattle.bits.proofs.RootBits.{bits_pos, bits-under, infinite-root, negative-root, own_root, root-back, root-pattern, root-width}
use Rattle.bits.proofs.root.sqrt_f32.Goals as goal
use Rattle.bits.proofs.root.sqrt_f32.Goals.{After-root_bits, Start}

-- `bits::root::sqrt_f32` meets its contract. Assumes nothing.
held : (c : Start) → T (fits binary32 c.args.x)
held c = subst T (sym c.well_formed.0.1) tt

-- the bits that the code makes are those of the root
made : (c : After-root_bits) → c.root_bits.result ≡ to_bits binary32 (root binary32 c.args.x)
made c = c.root_bits.ensures ∙ ap (λ (y : Float). to_bits binary32 (root binary32 y)) (of_bits-to_bits binary32 c.args.x (held (goal.at-After-root_bits c).Start))

pub returns-then-b-eq2139095040 : goal.returns-then-b-eq2139095040
returns-then-b-eq2139095040 c = infinite-root binary32 c.args.x (held (goal.at.returns-then-b-eq2139095040 c).Start) c.if-b-eq2139095040.true

pub overflow_cast-b : goal.overflow_cast-b
overflow_cast-b c = record { fits = omega (arith, to_bits-lt binary32 c.args.x (held (goal.at.overflow_cast-b c).Start)) }

pub root_bits-requires : goal.root_bits-requires
root_bits-requires c =
    let x = c.args.x in
    let h = held (goal.at.root_bits-requires c).Start in
    (bits_pos binary32 x h c.if-x.true, bits-under binary32 x h c.if-x.true c.if-b-eq2139095040.false)

pub overflow_cast-result : goal.overflow_cast-result
overflow_cast-result c = record { fits = root-width binary32 c.args.x _ (held (goal.at.overflow_cast-result c).Start) c.if-x.true (made c) }

pub float_from_bits-result : goal.float_from_bits-result
float_from_bits-result c = root-pattern binary32 c.args.x _ (held (goal.at.float_from_bits-result c).Start) c.if-x.true (made c)

pub returns-then-x : goal.returns-then-x
returns-then-x c = root-back binary32 c.args.x _ (held (goal.at.returns-then-x c).Start) c.if-x.true (made c)

pub returns-then-x-2 : goal.returns-then-x-2
returns-then-x-2 c = negative-root binary32 c.args.x c.if-x-2.true

pub returns : goal.returns
returns c = own_root binary32 c.args.x c.if-x.false c.if-x-2.false
