use Rattle.std.proofs.Common.{◌≡◌, T, sym, ap, ◌∙◌, subst}
use lib.Ieee.{Float, binary64, to_bits, fits}
use lib.Ieee.Bits.{of_bits-to_bits}
use Rattle.bits.specs.Root.{root}
use Rattle.bits.proofs.RootBits.{bits_pos, bits-under, infinite-root, negative-root, own_root, root-back, root-pattern}
use Rattle.bits.proofs.root.sqrt_f64.Goals as goal
use Rattle.bits.proofs.root.sqrt_f64.Goals.{After-root_bits, Start}

-- `bits::root::sqrt_f64` meets its contract. Assumes nothing.
held : (c : Start) → T (fits binary64 c.args.x)
held c = subst T (sym c.well_formed.0.1) tt

-- the bits that the code makes are those of the root
made : (c : After-root_bits) → c.root_bits.result ≡ to_bits binary64 (root binary64 c.args.x)
made c = c.root_bits.ensures ∙ ap (λ (y : Float). to_bits binary64 (root binary64 y)) (of_bits-to_bits binary64 c.args.x (held (goal.at-After-root_bits c).Start))

pub returns-then-b-eq9218868437227405312 : goal.returns-then-b-eq9218868437227405312
returns-then-b-eq9218868437227405312 c = infinite-root binary64 c.args.x (held (goal.at.returns-then-b-eq9218868437227405312 c).Start) c.if-b-eq9218868437227405312.true

pub root_bits-requires : goal.root_bits-requires
root_bits-requires c =
    let x = c.args.x in
    let h = held (goal.at.root_bits-requires c).Start in
    (bits_pos binary64 x h c.if-x.true, bits-under binary64 x h c.if-x.true c.if-b-eq9218868437227405312.false)

pub float_from_bits-result : goal.float_from_bits-result
float_from_bits-result c = root-pattern binary64 c.args.x _ (held (goal.at.float_from_bits-result c).Start) c.if-x.true (made c)

pub returns-then-x : goal.returns-then-x
returns-then-x c = root-back binary64 c.args.x _ (held (goal.at.returns-then-x c).Start) c.if-x.true (made c)

pub returns-then-x-2 : goal.returns-then-x-2
returns-then-x-2 c = negative-root binary64 c.args.x c.if-x-2.true

pub returns : goal.returns
returns c = own_root binary64 c.args.x c.if-x.false c.if-x-2.false
