use Rattle.radius.proofs.Gathering.{enters-by}
use Rattle.radius.proofs.WithinReachSearch.enters.Goals as goal

pub returns : goal.returns
returns c = λ asked room es h. enters-by h c.args.plane_sq
