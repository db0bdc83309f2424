-- `places`: one more than the logarithm.
use Rattle.text.proofs.Digits.{places-are}
use Rattle.text.proofs.places.Goals as goal

pub returns : goal.returns
returns c =
    let log = c.checked_ilog10.ensures in
    places-are c.args.n c.checked_ilog10.result c.unwrap_or.result log.none log.power_le log.next_power_gt log.bound c.unwrap_or.ensures
