-- `bits_run::judge` meets its contract: it tests what `judged` tests, in its order. Assumes nothing.
use Rattle.std.proofs.Common.{◌≡◌, ℕ, ◌<◌, cond, ◌&&◌, eqb, ltb, List, length, sym, ap, ◌∙◌, arith, lt-ltb, eq-eqb, ne_eqb}
use mathlib.Core.Bool.{and-false}
use Rattle.bits_run.specs.Record.{word_at, result_of, judged}
use Rattle.bits_run.proofs.judge.Goals as goal
use Rattle.bits_run.proofs.judge.Goals.{After-word-2}

-- the verdict on a length, a function's number, its result and the one stored
abbrev verdict : ℕ → ℕ → ℕ → ℕ → ℕ
verdict n k r y = cond (eqb n 24 && (ltb k 8 && eqb r y)) k 0

by-numbers : (s : List ℕ) (k x r y : ℕ) → k ≡ word_at s 0 → x ≡ word_at s 8 → r ≡ result_of k x → y ≡ word_at s 16 → verdict (length s) k r y ≡ judged s
unfolding judged
by-numbers s k x r y ek ex er ey =
    ap (λ (z : ℕ). verdict (length s) k z y) er
    ∙ ap (λ (z : ℕ). verdict (length s) k (result_of k z) y) ex
    ∙ ap (λ (z : ℕ). verdict (length s) k (result_of k (word_at s 8)) z) ey
    ∙ ap (λ (z : ℕ). verdict (length s) z (result_of z (word_at s 8)) (word_at s 16)) ek

differs : (n k r y : ℕ) → (r ≡ y → ⊥) → 0 ≡ verdict n k r y
differs n k r y h = sym (rw (ne_eqb r y h, and-false (ltb k 8), and-false (eqb n 24)))

agrees : (n k r y : ℕ) → n ≡ 24 → k < 8 → r ≡ y → k ≡ verdict n k r y
agrees n k r y a b e = sym (rw (eq-eqb n 24 a, lt-ltb k 8 b, eq-eqb r y e))

module _ (c : After-word-2) where
  same : verdict (length c.args.s.now) c.word-kind.result c.result.result c.word-2.result ≡ judged c.args.s.now
  same =
      by-numbers c.args.s.now c.word-kind.result c.word.result c.result.result c.word-2.result
      c.word-kind.ensures c.word.ensures c.result.ensures c.word-2.ensures

pub returns-then-result-word : goal.returns-then-result-word
returns-then-result-word c = (differs (length c.args.s.now) c.word-kind.result _ _ c.if-result-word.true ∙ same (goal.at.returns-then-result-word c).After-word-2, omega arith)

pub returns : goal.returns
returns c = (agrees (length c.args.s.now) c.word-kind.result _ _ c.if-s-ne24.false (omega arith) c.if-result-word.false ∙ same (goal.at.returns c).After-word-2, omega arith)
