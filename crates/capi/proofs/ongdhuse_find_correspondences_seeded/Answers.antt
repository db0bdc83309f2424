-- `ongdhuse_find_correspondences_seeded`: a refusal is told by its number. By hand, so that of a wrong body the check shows what differs.
use Rattle.std.proofs.Common.{◌∙◌, rules}
use Rattle.capi.proofs.ongdhuse_find_correspondences_seeded.Goals as goal

pub returns-in-Err : goal.returns-in-Err
returns-in-Err c = record { told = c.number.ensures ∙ search rules; entries = search rules }
