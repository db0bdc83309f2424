-- `count_matched`: an entry that is a match is one pair more.
use Prim.Native.Nat.{ℕ, ◌+◌, ◌≤◌}
use native.Mathlib.Omega.{arith}
use mathlib.Core.Path.{◌≡◌, sym, ap, ◌∙◌}
use mathlib.Core.Bool.{Bool, true, false, not}
use mathlib.Core.List.{List}
use lib.Dec.{eqb}
use lib.ListN.{length, take, get_or}
use lib.Seq.{take_all}
use mir.Val.{bool_byte}
use Rattle.tree.specs.Refuse.{no_match}
use Rattle.matching.specs.Pairs.{pairs}
use Rattle.matching.proofs.Pairs.{nil, one-more}
use Rattle.matching.proofs.count_matched.Goals as goal

pub loop-m-init : goal.loop-m-init
loop-m-init c = (omega arith, nil)

at_most_one : (r : ℕ) (b : Bool) → r ≡ bool_byte b → r ≤ 1
at_most_one r true e = omega arith
at_most_one r false e = omega arith

pub loop-m-preserved : goal.loop-m-preserved
loop-m-preserved c =
    let M = c.args.matches.now in
    let l = c.loop-m in
    let r : c.from-n.result ≡ bool_byte (not (eqb (get_or M l.m-index 0) no_match)) = c.from-n.ensures in (
      omega (arith, at_most_one c.from-n.result (not (eqb (get_or M l.m-index 0) no_match)) r),
      ap (λ (k : ℕ). k + c.from-n.result) l.invariant.1 ∙ ap (λ (k : ℕ). length (pairs (take l.m-index M)) + k) r ∙ one-more M l.m-index c.loop-m-test.true,
    )

pub returns : goal.returns
returns c = c.loop-m.invariant.1 ∙ ap (λ (l : List ℕ). length (pairs l)) (take_all c.loop-m.m-index c.args.matches.now c.loop-m-test.false)
