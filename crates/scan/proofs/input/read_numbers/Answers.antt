-- `read_numbers`: in front of place i they are read.
use Prim.Native.Nat.{◌+◌, ◌*◌}
use native.Mathlib.Numerals.{add-one}
use mathlib.Core.Path.{◌≡◌, refl, sym, ap, ◌∙◌}
use mathlib.Core.List.{List, [], ◌∷◌, ◌++◌}
use lib.ListN.{length-set}
use lib.Seq.{length-take-le, take-suc-set}
use lib.Ieee.{Float, binary32, of_bits}
use native.Mathlib.Omega.{arith}
use Rattle.scan.specs.Input.{word, numbers}
use Rattle.scan.proofs.Inputs.{numbers-more}
use Rattle.scan.proofs.input.read_numbers.Goals as goal

pub loop-i-init : goal.loop-i-init
unfolding numbers
loop-i-init c = (length-take-le _ _ (omega arith), refl)

pub loop-i-preserved : goal.loop-i-preserved
loop-i-preserved c =
    let l = c.loop-i in
    let B = c.args.bytes.now in
    let at : 4 * l.i ≡ 0 + 4 * l.i = omega arith in
    let x : c.f32_from_bits.result ≡ of_bits binary32 (word B (0 + 4 * l.i)) = c.f32_from_bits.ensures ∙ ap (of_bits binary32) (c.word.ensures ∙ ap (word B) at) in (
      simp length-set l.invariant.0,
      rw add-one
          (take-suc-set l.x-items l.i _ (omega arith) ∙ ap (λ (read : List Float). read ++ (c.f32_from_bits.result ∷ [])) l.invariant.1
          ∙ ap (λ (y : Float). numbers B 0 l.i ++ (y ∷ [])) x ∙ sym (numbers-more B 0 l.i)),
    )
