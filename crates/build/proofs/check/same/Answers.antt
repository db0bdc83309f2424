-- `same` tells numbers apart by their keys.
use mathlib.Core.Path.{sym, subst}
use lib.Dec.{T}
use Rattle.build.proofs.Descending.{same_keys}
use Rattle.build.proofs.check.same.Goals as goal

pub returns : goal.returns
returns c = same_keys c.args.x c.args.y _ _ (subst T (sym c.well_formed.0.1) tt) (subst T (sym c.well_formed.1.0.1) tt) c.key.ensures c.key-2.ensures
