use mathlib.Core.Path.{ap, ◌∙◌}
use Rattle.tree.specs.Refuse.{gives}
use Rattle.tree.specs.Refusal.{outcome_of}
use Rattle.tree.proofs.Outcomes.{handed_on, cloud-told, cloud-given}
use Rattle.frame.specs.Moments.{moments_of}
use Rattle.frame.specs.Entries.{centred_in}
use Rattle.frame.proofs.Answers.{frame_is}
use Rattle.frame.proofs.LocalFrame.centred_on.Goals as goal

-- `LocalFrame::centred_on`: refusals 1 and 2 of a cloud, or the frame at its mean.
pub returns-in_err-cloud : goal.returns-in_err-cloud
unfolding centred_in
returns-in_err-cloud c = ap outcome_of (handed_on _ _ c.from_residual.ensures.1) ∙ cloud-told _ _ c.args.cloud.now c.in_err-cloud.ensures

pub returns : goal.returns
unfolding centred_in
returns c =
    let cloud = c.args.cloud.now in
    let m = c.of-2.ensures ∙ ap moments_of (cloud-given cloud c.in_ok-cloud.ensures).2 in
    ap gives (frame_is cloud m c.mean-origin.ensures)
    ∙ cloud-told _ _ cloud c.in_ok-cloud.ensures
