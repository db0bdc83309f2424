-- What a search sees at a node, and which far part it lets wait: document 01, "Distance and near-first order". Definitions only.
use Rattle.std.specs.Prelude.{◌+◌, ◌-◌, ◌/◌, Bool, not, ◌&&◌, cond, List, eqb, Float}
use Rattle.space.specs.declared.Point3f.{Point3f}
use Rattle.space.specs.Distance.{distance_squared, apart, left_is_near, square}
use Rattle.tree.specs.Slots.{point_at}
use Rattle.tree.specs.Grow.{next_axis}
use Rattle.walk.specs.declared.Group.{Group}
use Rattle.walk.specs.declared.Waiting.{Waiting}
use Rattle.walk.specs.declared.Node.{Node}

-- "Slots: root, left part, right part": of L slots (L - 1)/2 are the left part, each split one level deeper
abbrev pub left_of : Group → Group
left_of g = record { start = g.start + 1; len = (g.len - 1) / 2; axis = next_axis g.axis }

abbrev pub right_of : Group → Group
right_of g = record { start = g.start + 1 + (g.len - 1) / 2; len = g.len - 1 - (g.len - 1) / 2; axis = next_axis g.axis }

-- near and far part, by whether the left is near, with the squared distance to the plane between them, beside the node's squared distance
abbrev pub node_split : Group → Bool → Float → Float → Node
node_split g left_near plane d =
    record {
      distance_sq = d;
      near = cond left_near (left_of g) (right_of g);
      far = record { group = cond left_near (right_of g) (left_of g); plane_sq = plane };
    }

-- by a = query - node: "If a <= 0 the near side is left, otherwise (also for NaN) right"
abbrev pub node_by : Group → Float → Float → Node
node_by g a d = node_split g (left_is_near a) (square a) d

-- the root of a group as the query sees it
abbrev pub node_of : List Float → Point3f → Group → Node
node_of coords q g = let p = point_at coords g.start in node_by g (apart g.axis q p) (distance_squared q p)

-- a far part waits if it has slots and would be entered now
abbrev pub waits : Waiting → Bool → Bool
waits far entered = not (eqb far.group.len 0) && entered
