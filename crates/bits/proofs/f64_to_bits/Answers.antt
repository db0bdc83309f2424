-- `f64_to_bits`: what std's promises. By hand, so that of a wrong body the check shows what differs.
use Rattle.bits.proofs.f64_to_bits.Goals as goal

pub returns : goal.returns
returns c = c.f64_to_bits_with_nan.ensures
