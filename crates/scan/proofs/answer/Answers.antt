-- `answer`: what is written stands at the front of the lent bytes.
use Rattle.scan.proofs.Answers.{answers}
use Rattle.scan.proofs.answer.Goals as goal

pub returns : goal.returns
returns c = answers c.args.bytes.now c.new-w.ensures c.write_answer.ensures c.len.ensures
