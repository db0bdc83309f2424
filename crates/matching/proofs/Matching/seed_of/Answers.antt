-- `Matching::seed_of`: no seed where the entry is the flag. By hand, so that of a wrong body the check shows what differs.
use borrow.Author.Tests.{eq-eqb}
use Rattle.tree.specs.Refuse.{no_match}
use Rattle.matching.specs.Matching.{seed_of}
use Rattle.matching.proofs.Matching.seed_of.Goals as goal

pub returns-then-seed-eq-NO_CHILD : goal.returns-then-seed-eq-NO_CHILD
unfolding seed_of
returns-then-seed-eq-NO_CHILD c = simp (eq-eqb c.args.seed no_match c.if-seed-eq-NO_CHILD.true)
