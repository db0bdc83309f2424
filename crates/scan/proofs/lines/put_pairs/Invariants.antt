use Prim.Native.Nat.{◌+◌, ◌*◌, ◌≤◌}
use mathlib.Core.Path.{◌≡◌}
use lib.ListN.{length}
use Rattle.std.specs.Iterator.Adapters.{zip_first, zip_second}
use Rattle.std.specs.Slice.Iter.{iter_rest}
use Rattle.scan.specs.Program.{pair_lines}
use Rattle.scan.specs.Promises.{side}
use Rattle.text.proofs.Stores.{Left}
use Rattle.scan.proofs.lines.put_pairs.Given as goal

abbrev pub invariant-loop-source : goal.invariant-loop-source
invariant-loop-source l =
    let xs = iter_rest (zip_first l.source-iterator) in
    let ys = iter_rest (zip_second l.source-iterator) in
    (length xs ≡ length ys) × (l.w.len + 22 * length xs ≤ length l.w.out.now) × Left (pair_lines (side l.sources l.targets)) l.initial.w (pair_lines (side xs ys)) l.w
