-- `put_decimal`: as many digits as the number has.
use Rattle.text.specs.Text.{decimal}
use Rattle.text.proofs.Writer.put_decimal.Goals as goal

pub returns : goal.returns
unfolding decimal
returns c = rw c.places.ensures.0 at c.put_digits.ensures
