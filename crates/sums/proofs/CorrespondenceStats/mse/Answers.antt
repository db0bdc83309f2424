-- `CorrespondenceStats::mse`: every u32 is an f64, so the count is handed on as it is. By hand, so that of a wrong body the check shows what differs.
use Rattle.std.proofs.Common.{ne_eqb}
use lib.Ieee.{of_bits}
use Rattle.sums.specs.Stats.{mse}
use Rattle.sums.proofs.CorrespondenceStats.mse.Goals as goal

pub returns-else-self-eq0 : goal.returns-else-self-eq0
unfolding mse of_bits
returns-else-self-eq0 c = rw (ne_eqb _ _ c.if-self-eq0.false) c.narrow.ensures
