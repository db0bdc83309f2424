-- `answer_read`: the bytes that were read decide.
use Prim.Native.Nat.{ℕ, min}
use native.Mathlib.Omega.{arith}
use mathlib.Core.Path.{◌≡◌, sym, ap, ◌∙◌}
use lib.ListN.{take}
use Rattle.std.proofs.lemmas.List.{take_min}
use Rattle.scan.proofs.Cut.{answers-read}
use Rattle.scan.proofs.answer_read.Goals as goal

pub returns : goal.returns
returns c =
    let B = c.args.bytes.now in
    let n = c.args.n in
    let same : take c.min.result B ≡ take n B = ap (λ (k : ℕ). take k B) (c.min.ensures ∙ ap (min n) (sym c.told-bytes)) ∙ take_min n B in
    answers-read B n (omega arith) (rw same at c.answer.ensures)
