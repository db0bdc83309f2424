-- The entries: their refusals in the order in which they are tested, or the answer. Definitions only.
use Rattle.std.specs.Prelude.{List, Float}
use Rattle.std.specs.Prelude.{Option}
use Rattle.tree.specs.Refuse.{Outcome, gives, on_cloud}
use Rattle.frame.specs.declared.CloudScale.{CloudScale}
use Rattle.frame.specs.declared.LocalFrame.{LocalFrame}
use Rattle.frame.specs.Frame.{scale_of, frame_on, frame_of}

unfoldable pub scale_in : List Float → Outcome CloudScale
unfolding scale_of
scale_in cloud = let s = scale_of cloud in on_cloud cloud (gives s)

unfoldable pub centred_in : List Float → Outcome LocalFrame
unfolding frame_on
centred_in cloud = let f = frame_on cloud in on_cloud cloud (gives f)

unfoldable pub frame_in : List Float → Outcome (Option LocalFrame)
unfolding frame_of
frame_in cloud = let f = frame_of cloud in on_cloud cloud (gives f)
