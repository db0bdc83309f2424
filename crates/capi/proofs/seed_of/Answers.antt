-- `seed_of`: by the flag. By hand, so that of a wrong body the check shows what differs.
use Rattle.std.proofs.Common.{eq-eqb}
use Rattle.capi.proofs.seed_of.Goals as goal

pub returns-then-seeded-eq0 : goal.returns-then-seeded-eq0
returns-then-seeded-eq0 c = rw (eq-eqb c.args.seeded 0 c.if-seeded-eq0.true)
