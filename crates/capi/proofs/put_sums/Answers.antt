-- `put_sums`: five vectors and the last number, one behind the other.
use Rattle.capi.proofs.Room.{sums-put}
use Rattle.capi.proofs.put_sums.Goals as goal

pub returns : goal.returns
returns c = sums-put c.args.s c.args.out.now c.requires c.put_vector.ensures c.put_vector-2.ensures c.put_vector-3.ensures c.put_vector-4.ensures c.put_vector-5.ensures
