-- `read_header`: each way back is the line of `header` that its tests lead to.
use native.Mathlib.Omega.{arith}
use mathlib.Core.Path.{◌≡◌}
use Prim.Native.Nat.{◌+◌, ◌*◌}
use lib.ListN.{length}
use Rattle.tree.specs.Refuse.{refused}
use Rattle.scan.specs.Input.{header}
use Rattle.scan.proofs.Inputs.{header-short, many-points, no_point, elsewhere, all_right}
use Rattle.scan.proofs.input.read_header.Goals as goal
use Rattle.scan.proofs.input.read_header.Goals.{then-source_at-ne16-via-then-source_at-ne16, then-source_at-ne16-via-else-source_at-ne16+then-target_at-end, then-source_at-ne16-via-else-source_at-ne16+else-target_at-end+then-n-end}

pub returns-then-n-lt16-clause-rule : goal.returns-then-n-lt16-clause-rule
returns-then-n-lt16-clause-rule c = header-short c.args.bytes.now c.if-n-lt16.true

pub returns-then-source-gt-MOST-clause-rule : goal.returns-then-source-gt-MOST-clause-rule
returns-then-source-gt-MOST-clause-rule c =
    many-points c.args.bytes.now c.word-source.ensures c.word-source_at.ensures c.word-target.ensures c.word-target_at.ensures c.if-n-lt16.false
    c.then-source-gt-MOST.either

pub returns-then-source-eq0-clause-rule : goal.returns-then-source-eq0-clause-rule
returns-then-source-eq0-clause-rule c =
    no_point c.args.bytes.now c.word-source.ensures c.word-source_at.ensures c.word-target.ensures c.word-target_at.ensures c.if-n-lt16.false
    c.if-source-gt-MOST.false c.if-target-gt-MOST.false c.then-source-eq0.either

pub returns-then-source_at-ne16-clause-rule : goal.returns-then-source_at-ne16-clause-rule
returns-then-source_at-ne16-clause-rule c =
    let s = c.word-source.result in
    let wrong : (c.word-source_at.result ≡ 16 → c.word-target_at.result ≡ 16 + 12 * s → length c.args.bytes.now ≡ 16 + 12 * s + 12 * c.word-target.result → ⊥) → refused 1 ≡ header c.args.bytes.now =
    elsewhere c.args.bytes.now c.word-source.ensures c.word-source_at.ensures c.word-target.ensures c.word-target_at.ensures c.if-n-lt16.false
    c.if-source-gt-MOST.false c.if-target-gt-MOST.false c.if-source-eq0.false c.if-target-eq0.false in
    elim c.then-source_at-ne16.branch [
      | then-source_at-ne16-via-then-source_at-ne16 w ↦ wrong (λ e f g. omega (arith, e, w.if-source_at-ne16.true))
      | then-source_at-ne16-via-else-source_at-ne16+then-target_at-end w ↦ wrong (λ e f g. omega (arith, f, w.if-target_at-end.true))
      | then-source_at-ne16-via-else-source_at-ne16+else-target_at-end+then-n-end w ↦ wrong (λ e f g. omega (arith, g, w.if-n-end.true))
    ]

pub returns-clause-rule : goal.returns-clause-rule
returns-clause-rule c =
    all_right c.args.bytes.now c.word-source.ensures c.word-source_at.ensures c.word-target.ensures c.word-target_at.ensures c.if-n-lt16.false
    c.if-source-gt-MOST.false c.if-target-gt-MOST.false c.if-source-eq0.false c.if-target-eq0.false
    (omega (arith, c.if-source_at-ne16.false)) (omega (arith, c.if-target_at-end.false)) (omega (arith, c.if-n-end.false))
