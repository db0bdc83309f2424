-- `put_digits`: the digits are written over the next places.
use native.Mathlib.Omega.{arith}
use mathlib.Core.Path.{refl, sym, ap, ◌∙◌}
use Prim.Native.Nat.{ℕ, ◌+◌}
use Rattle.text.specs.Text.{digits}
use Rattle.text.proofs.Digits.{digits-length}
use Rattle.text.proofs.Stores.{put_mid-sets, part-length}
use Rattle.text.proofs.Writer.put_digits.Goals as goal

pub returns : goal.returns
returns c =
    let w = c.args.self.now in
    let long = digits-length c.args.base c.args.k c.args.n in
    record {
      same_reference = refl;
      put =
          record {
            fits = omega (arith, long, c.requires.2);
            end = ap (λ (j : ℕ). w.len + j) (sym long);
            list = put_mid-sets w.out.now w.len (digits c.args.base c.args.k c.args.n) _ (omega (arith, long)) (omega (arith, long, c.requires.2)) (c.write_digits.ensures ∙ ap (λ (j : ℕ). digits c.args.base j c.args.n) (part-length w.out.now w.len c.args.k c.requires.2));
          };
    }
