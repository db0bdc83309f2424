use mathlib.Core.Path.{refl}
use lib.Ieee.{of_bits}
use Rattle.walk.proofs.infinity.Goals as goal

-- `infinity`: its bits are those of the value.
pub returns : goal.returns
unfolding of_bits
returns c = refl
