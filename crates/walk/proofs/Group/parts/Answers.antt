use mathlib.Core.Path.{◌≡◌, refl}
use mathlib.Core.Bool.{Bool, true, false, cond}
use lib.Ieee.{Float, of_bits}
use Rattle.space.specs.Distance.{left_is_near, square}
use Rattle.tree.specs.Grow.{next_axis}
use Rattle.walk.specs.declared.Group.{Group}
use Rattle.walk.specs.Node.{left_of, right_of, node_split}
use Rattle.walk.proofs.Group.parts.Goals as goal

-- `Group::parts`: near and far, number by number, by whether a is at most zero.
-- the parts number by number
by_number : (g : Group) (pl d : Float) (c : Bool)
    → record {
      distance_sq = d;
      near = record { start = cond c (left_of g).start (right_of g).start; len = cond c (left_of g).len (right_of g).len; axis = next_axis g.axis };
      far = record { group = record { start = cond c (right_of g).start (left_of g).start; len = cond c (right_of g).len (left_of g).len; axis = next_axis g.axis }; plane_sq = pl };
    }
    ≡ node_split g c pl d
by_number g pl d true = refl
by_number g pl d false = refl

pub returns : goal.returns
unfolding of_bits left_is_near
returns c =
    rw (c.pick.ensures, c.pick-2.ensures, c.pick-3.ensures, c.pick-4.ensures, c.next_axis-axis.ensures)
    (let a = c.args in by_number a.self (square a.a) a.distance_sq (left_is_near a.a))
