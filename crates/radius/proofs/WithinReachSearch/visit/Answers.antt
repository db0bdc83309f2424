use mathlib.Core.Path.{refl}
use Rattle.radius.proofs.Gathering.{kept-yes, kept-no, keeps}
use Rattle.radius.proofs.WithinReachSearch.visit.Goals as goal

pub returns-then-distance_sq-self : goal.returns-then-distance_sq-self
returns-then-distance_sq-self c = λ asked room es n met h. keeps h n c.args.at c.args.distance_sq met _ refl refl refl (kept-yes c.if-distance_sq-self.true)

pub returns-else-distance_sq-self : goal.returns-else-distance_sq-self
returns-else-distance_sq-self c = λ asked room es n met h. keeps h n c.args.at c.args.distance_sq met _ refl refl refl (kept-no c.if-distance_sq-self.false)
