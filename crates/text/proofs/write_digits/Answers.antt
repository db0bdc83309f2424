-- `write_digits`: the digits that are left stand before those written.
use mathlib.Core.Path.{◌≡◌, sym, ap, ◌∙◌}
use Prim.Native.Nat.{ℕ}
use native.Mathlib.Omega.{arith}
use lib.ListN.{length, length-set}
use lib.Seq.{sets}
use Rattle.text.specs.Text.{digits}
use Rattle.text.proofs.Digits.{digits-length, digits_last, digits-none}
use Rattle.text.proofs.Stores.{sets-whole}
use Rattle.text.proofs.write_digits.Goals as goal

pub loop-i-preserved : goal.loop-i-preserved
loop-i-preserved c =
    let l = c.loop-i in
    (simp length-set l.invariant.0, rw c.letter.ensures (digits_last l.out c.args.base l.i l.rest c.loop-i-test.true) ∙ l.invariant.1)

pub returns : goal.returns
returns c =
    let l = c.loop-i in
    let a = c.args in
    let e : l.i ≡ 0 = omega arith in
    sym (ap (sets l.out 0) (ap (λ (j : ℕ). digits a.base j l.rest) e ∙ digits-none a.base l.rest)) ∙ l.invariant.1 ∙ sets-whole a.out.now (digits a.base (length a.out.now) a.n) (digits-length _ _ _)
