-- `ongdhuse_find_nearest` is that of the crate capi. By hand, so that of a wrong body the check shows what differs.
use Rattle.capi_c.proofs.ongdhuse_find_nearest.Goals as goal

pub returns : goal.returns
returns c = c.ongdhuse_find_nearest.ensures
