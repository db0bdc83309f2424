-- `Moments::add`: a point that is not finite leaves the moments.
use mathlib.Core.Path.{sym, ◌∙◌}
use Rattle.frame.specs.Moments.{add_point}
use Rattle.frame.proofs.Moments.add.Goals as goal

pub returns-then-is_finite_point : goal.returns-then-is_finite_point
unfolding add_point
returns-then-is_finite_point c = rw (sym c.is_finite_point.ensures ∙ c.if-is_finite_point.true, c.norm_squared.ensures, c.plus.ensures, c.from-v.ensures)

pub returns-else-is_finite_point : goal.returns-else-is_finite_point
unfolding add_point
returns-else-is_finite_point c = rw (sym c.is_finite_point.ensures ∙ c.if-is_finite_point.false)
