-- `word`: the four bytes by their worth.
use native.Mathlib.Omega.{arith}
use mathlib.Core.Path.{◌∙◌}
use Rattle.scan.specs.Input.{word}
use Rattle.scan.proofs.input.word.Goals as goal

pub returns : goal.returns
unfolding word
returns c = c.from_le_bytes.ensures ∙ omega arith
