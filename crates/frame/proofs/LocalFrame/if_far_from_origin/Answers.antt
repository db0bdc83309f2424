use mathlib.Core.Path.{sym, ap, ◌∙◌}
use Rattle.tree.specs.Refuse.{gives}
use Rattle.tree.specs.Refusal.{outcome_of}
use Rattle.tree.proofs.Outcomes.{handed_on, cloud-told, cloud-given}
use Rattle.frame.specs.Moments.{moments_of}
use Rattle.frame.specs.Entries.{frame_in}
use Rattle.frame.proofs.Answers.{frame_is, scale-is, no-frame, a-frame}
use Rattle.frame.proofs.LocalFrame.if_far_from_origin.Goals as goal

-- `LocalFrame::if_far_from_origin`: refusals 1 and 2 of a cloud, or its frame where it is far.
pub returns-in_err-cloud : goal.returns-in_err-cloud
unfolding frame_in
returns-in_err-cloud c = ap outcome_of (handed_on _ _ c.from_residual.ensures.1) ∙ cloud-told _ _ c.args.cloud.now c.in_err-cloud.ensures

pub returns-then-near : goal.returns-then-near
unfolding frame_in
returns-then-near c =
    let cloud = c.args.cloud.now in
    let m = c.of-m.ensures ∙ ap moments_of (cloud-given cloud c.in_ok-cloud.ensures).2 in
    let s = scale-is cloud m c.mean-origin.ensures _ _ c.narrowed-centroid.ensures c.radius-radius.ensures in
    ap gives (no-frame cloud _ s (sym c.near.ensures ∙ c.if-near.true))
    ∙ cloud-told _ _ cloud c.in_ok-cloud.ensures

pub returns-else-near : goal.returns-else-near
unfolding frame_in
returns-else-near c =
    let cloud = c.args.cloud.now in
    let m = c.of-m.ensures ∙ ap moments_of (cloud-given cloud c.in_ok-cloud.ensures).2 in
    let s = scale-is cloud m c.mean-origin.ensures _ _ c.narrowed-centroid.ensures c.radius-radius.ensures in
    let o = frame_is cloud m c.mean-origin.ensures in
    ap gives (a-frame cloud _ s (sym c.near.ensures ∙ c.if-near.false) _ o)
    ∙ cloud-told _ _ cloud c.in_ok-cloud.ensures
