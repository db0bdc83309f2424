-- `CorrespondenceStats::zero`: the literals are 0 and +0. By hand, so that of a wrong body the check shows what differs.
use Rattle.std.proofs.Common.{refl}
use lib.Ieee.{of_bits}
use Rattle.sums.proofs.CorrespondenceStats.zero.Goals as goal

pub returns : goal.returns
unfolding of_bits
returns c = rw c.zero-v.ensures refl
