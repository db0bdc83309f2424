-- `put_text`: a copy is stores one after the other.
use native.Mathlib.Omega.{arith}
use mathlib.Core.Path.{refl}
use Rattle.text.proofs.Stores.{put_mid-sets}
use Rattle.text.proofs.Writer.put_text.Goals as goal

pub returns : goal.returns
returns c =
    record {
      same_reference = refl;
      put = record { fits = c.requires; end = refl; list = put_mid-sets c.args.self.now.out.now c.args.self.now.len c.args.text.now _ (omega arith) c.requires c.copy_from_slice.ensures.after };
    }
