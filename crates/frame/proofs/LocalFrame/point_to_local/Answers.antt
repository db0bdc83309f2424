-- `LocalFrame::point_to_local` is the definition, call by call.
use Rattle.frame.specs.Frame.{local_point}
use Rattle.frame.proofs.LocalFrame.point_to_local.Goals as goal

pub returns : goal.returns
unfolding local_point
returns c = rw (c.narrowed.ensures, c.minus.ensures, c.from.ensures)
