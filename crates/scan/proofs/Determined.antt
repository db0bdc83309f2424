-- The promises of `answer` and `answer_read` fix the result and every lent byte: two outcomes that one allows are the same.
use Prim.Native.Nat.{ℕ}
use mathlib.Core.Path.{◌≡◌, sym, ◌∙◌}
use mathlib.Core.List.{List}
use lib.ListN.{take}
use Rattle.scan.specs.Promises.{Answers, AnswersRead}

pub answer-determined : (input out : List ℕ) (r s : ℕ) (A B : List ℕ) → Answers input out r A → Answers input out s B → (r ≡ s) × (A ≡ B)
answer-determined input out r s A B a b = (a.returns ∙ sym b.returns, a.written ∙ sym b.written)

pub answer-read-determined : (bytes : List ℕ) (n : ℕ) (out : List ℕ) (r s : ℕ) (A B : List ℕ) → AnswersRead bytes n out r A → AnswersRead bytes n out s B → (r ≡ s) × (A ≡ B)
answer-read-determined bytes n out r s A B a b = answer-determined (take n bytes) out r s A B a.front b.front
