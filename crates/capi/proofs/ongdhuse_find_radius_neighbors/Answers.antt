-- `ongdhuse_find_radius_neighbors`: what the radius search leaves, at the radius that is given. By hand, so that of a wrong body the check shows what differs.
use Rattle.std.proofs.Common.{rules}
use Rattle.radius.specs.Entries.{RadiusWritten}
use Rattle.capi.proofs.ongdhuse_find_radius_neighbors.Goals as goal

pub returns : goal.returns
returns c =
    let left : RadiusWritten _ _ _ c.args.radius _ _ _ _ _ = c.find_radius_neighbors-answer.ensures in
    search rules
