-- `widen`: what std's promises. By hand, so that of a wrong body the check shows what differs.
use Rattle.bits.specs.Convert.{widen}
use Rattle.bits.proofs.widen.Goals as goal

pub returns : goal.returns
unfolding widen
returns c = c.f32_to_f64_with_nan.ensures
