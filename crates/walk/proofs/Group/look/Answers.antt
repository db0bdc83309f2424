-- `Group::look`: the root's point gives its distance and its two parts.
use mathlib.Core.Path.{ap, ap₂, ◌∙◌}
use lib.Ieee.{binary32, sub}
use Rattle.space.specs.Distance.{on, apart, distance_squared}
use Rattle.walk.specs.Node.{node_by}
use Rattle.walk.proofs.Group.look.Goals as goal

pub returns : goal.returns
unfolding apart
returns c = let a = c.args in let at = c.point_at-point.ensures in c.parts.ensures ∙ ap₂ (node_by a.self) (ap₂ (sub binary32) c.on.ensures (c.on-2.ensures ∙ ap (on a.self.axis) at)) (c.distance_squared.ensures ∙ ap (distance_squared a.query) at)
