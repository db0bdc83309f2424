-- `write_answer`: a refusal is one line, and otherwise the report is written.
use mathlib.Core.Path.{sym, ap, ◌∙◌}
use Rattle.tree.specs.Refusal.{outcome_of}
use Rattle.scan.proofs.Answers.{answered-by, refuses}
use Rattle.scan.proofs.write_answer.Goals as goal

pub returns-in-Ok : goal.returns-in-Ok
returns-in-Ok c = answered-by c.args.bytes.now (sym (ap outcome_of c.in-Ok.is) ∙ c.read_header.ensures.rule) c.report.ensures

pub returns-in-Err : goal.returns-in-Err
returns-in-Err c = answered-by c.args.bytes.now (sym (ap outcome_of c.in-Err.is) ∙ c.read_header.ensures.rule) (refuses c.args.bytes.now _ c.put_refusal.ensures)
