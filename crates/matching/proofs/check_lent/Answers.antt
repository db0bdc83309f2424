-- `check_lent`: by its tests, of which those of 4 and 5 are stated. By hand, so that of a wrong body the check shows what differs.
use Prim.Native.Nat.{◌/◌}
use mathlib.Core.Path.{◌≡◌}
use mathlib.Core.Bool.{false}
use lib.ListN.{length}
use Rattle.std.proofs.Common.{rules}
use Rattle.tree.specs.Refuse.{any_entry_outside, any_index_outside}
use Rattle.matching.proofs.check_lent.Goals as goal
use Rattle.matching.proofs.check_lent.Goals.{then-source-eq0-via-then-source-eq0, then-source-eq0-via-else-source-eq0+then-n-eq0}

pub returns-then-source-eq0 : goal.returns-then-source-eq0
returns-then-source-eq0 c =
    elim c.then-source-eq0.branch [
      | then-source-eq0-via-then-source-eq0 w ↦ search rules
      | then-source-eq0-via-else-source-eq0+then-n-eq0 w ↦ let none : length c.args.target.now / 3 ≡ 0 = w.if-n-eq0.true in search rules
    ]

pub returns : goal.returns
returns c =
    let n = length c.args.target.now / 3 in
    let seeds : false ≡ any_entry_outside n c.args.matches.now = c.if-any_entry_outside.ensures in
    let indices : false ≡ any_index_outside n c.args.indices.now = c.if-any_index_outside.ensures in search rules
