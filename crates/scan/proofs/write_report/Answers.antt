-- `write_report`: the pair list and the sums answer, and their lines are the report.
use native.Mathlib.Omega.{arith}
use mathlib.Core.Path.{refl, sym, ap, ◌∙◌}
use Rattle.sums.specs.Stats.{mse}
use Rattle.scan.proofs.Trees.{front_fits}
use Rattle.scan.proofs.Reports.{is_listed, pairs-few, sources-length, targets-length, pairs-front, is_summed, sums-are, report-is}
use Rattle.scan.proofs.write_report.Goals as goal

pub unwrap-n-requires : goal.unwrap-n-requires
unwrap-n-requires c = is_listed c.args.matches.now c.requires.0.few_sources c.correspondence_pairs.ensures refl refl

pub unwrap-stats-requires : goal.unwrap-stats-requires
unwrap-stats-requires c = is_summed c.args.source.now c.args.target.now c.args.matches.now c.requires.0 c.requires.1 _ c.collect.ensures

pub slice_bounds-sources-end : goal.slice_bounds-sources-end
slice_bounds-sources-end c =
    let l = c.correspondence_pairs.ensures in
    front_fits _ _ (sources-length c.args.matches.now c.requires.0.few_sources l refl refl c.unwrap-n.ensures)

pub slice_bounds-put_report-end : goal.slice_bounds-put_report-end
slice_bounds-put_report-end c =
    let l = c.correspondence_pairs.ensures in
    sources-length c.args.matches.now c.requires.0.few_sources l refl refl c.unwrap-n.ensures

pub slice_bounds-targets-end : goal.slice_bounds-targets-end
slice_bounds-targets-end c =
    let l = c.correspondence_pairs.ensures in
    front_fits _ _ (targets-length c.args.matches.now c.requires.0.few_sources l refl refl c.unwrap-n.ensures)

pub slice_bounds-put_report-end-2 : goal.slice_bounds-put_report-end-2
slice_bounds-put_report-end-2 c =
    let l = c.correspondence_pairs.ensures in
    targets-length c.args.matches.now c.requires.0.few_sources l refl refl c.unwrap-n.ensures

pub put_report-requires : goal.put_report-requires
put_report-requires c =
    let l = c.correspondence_pairs.ensures in
    let s = sources-length c.args.matches.now c.requires.0.few_sources l refl refl c.unwrap-n.ensures in
    (sym s ∙ targets-length c.args.matches.now c.requires.0.few_sources l refl refl c.unwrap-n.ensures, omega (arith, s, pairs-few c.args.matches.now c.requires.0.few_sources l refl refl c.unwrap-n.ensures), c.requires.2)

pub returns : goal.returns
returns c =
    let l = c.correspondence_pairs.ensures in
    let e = sums-are c.args.source.now c.args.target.now c.args.matches.now c.requires.0 c.requires.1 _ c.collect.ensures c.unwrap-stats.ensures in
    report-is c.args.source.now c.args.target.now c.args.matches.now (pairs-front c.args.matches.now c.requires.0.few_sources l refl refl c.unwrap-n.ensures) (c.mse.ensures ∙ ap mse e)
    c.put_report.ensures
