-- `bits::root::to_scaled` meets its contract. Assumes nothing.
use Rattle.std.proofs.Common.{sym, ◌∙◌}
use Rattle.bits.proofs.RootScaled.{subnormal, normal}
use Rattle.bits.proofs.root.to_scaled.Goals as goal

pub returns-then-b-leading : goal.returns-then-b-leading
returns-then-b-leading g c =
    let F = g.F.Binary in
    subnormal F.format c.args.b c.LEADING-leading.result c.LOW.result (F.leading_is ∙ sym c.LEADING-leading.ensures) (F.low_is ∙ sym c.LOW.ensures) c.requires.0 c.if-b-leading.true

pub returns-else-b-leading : goal.returns-else-b-leading
returns-else-b-leading g c =
    let F = g.F.Binary in
    normal F.format c.args.b c.LEADING-leading.result _ (F.leading_is ∙ sym c.LEADING-leading.ensures) (F.low_is ∙ sym c.LOW-else-b-leading.ensures) c.if-b-leading.false c.requires.1
