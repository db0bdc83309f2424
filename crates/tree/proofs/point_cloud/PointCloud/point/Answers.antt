-- `PointCloud::point`: point i of the numbers that are held. By hand, so that of a wrong body the check shows what differs.
use mathlib.Core.Path.{ap, ◌∙◌}
use mathlib.Core.List.{List}
use lib.Ieee.{Float}
use Rattle.tree.specs.Slots.{point_at}
use Rattle.tree.proofs.point_cloud.PointCloud.point.Goals as goal

pub returns : goal.returns
returns c = c.point_at.ensures ∙ ap (λ (numbers : List Float). point_at numbers c.args.i) c.self.view_is
