-- `put_report`: the three texts, one after the other.
use native.Mathlib.Omega.{arith}
use mathlib.Core.Path.{sym}
use lib.ListN.{length}
use Rattle.scan.specs.Program.{report_lines}
use Rattle.scan.specs.Promises.{side}
use Rattle.text.proofs.Stores.{writes-length, writes_then}
use Rattle.scan.proofs.Lengths.{count_line-length, pair_lines-length, side-length}
use Rattle.scan.proofs.lines.put_report.Goals as goal

pub put_pairs-requires : goal.put_pairs-requires
put_pairs-requires c =
    let p = c.put_count.ensures in
    (c.requires.0, omega (arith, p.put.end, writes-length p, count_line-length (length c.args.sources.now), c.requires.1, c.requires.2))

pub put_mse-requires : goal.put_mse-requires
put_mse-requires c =
    let S = c.args.sources.now in
    let T = c.args.targets.now in
    let p = c.put_count.ensures in
    let q = c.put_pairs.ensures in
    omega (arith, p.put.end, q.put.end, writes-length p, writes-length q, count_line-length (length S), pair_lines-length (side S T), side-length S T c.requires.0, c.requires.1, c.requires.2)

pub returns : goal.returns
unfolding report_lines
returns c =
    let p = c.put_count.ensures in
    writes_then (writes_then (rw (sym (side-length c.args.sources.now c.args.targets.now c.requires.0)) at p) c.put_pairs.ensures) c.put_mse.ensures
