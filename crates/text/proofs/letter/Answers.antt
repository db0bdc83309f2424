-- `letter`: the two halves of the definition.
use native.Mathlib.Omega.{arith}
use borrow.Author.Tests.{lt-ltb, le-ltb}
use Rattle.text.specs.Text.{letter}
use Rattle.text.proofs.letter.Goals as goal

pub returns-then-d-lt10 : goal.returns-then-d-lt10
unfolding letter
returns-then-d-lt10 c = rw (lt-ltb _ _ c.if-d-lt10.true)

pub returns-else-d-lt10 : goal.returns-else-d-lt10
unfolding letter
returns-else-d-lt10 c = rw (le-ltb _ _ c.if-d-lt10.false) (omega arith)
