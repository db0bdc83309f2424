-- `put_hex8`: the last eight digits.
use Rattle.text.specs.Text.{hex8}
use Rattle.text.proofs.Writer.put_hex8.Goals as goal

pub returns : goal.returns
unfolding hex8
returns c = c.put_digits.ensures
