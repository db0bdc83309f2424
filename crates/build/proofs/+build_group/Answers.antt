-- `build_group` builds a group: by the length of the group, from what the calls on its two parts leave.
use mathlib.Core.Path.{◌≡◌, refl}
use Prim.Native.Nat.{ℕ, ◌<◌}
use lib.ListN.{length}
use native.Mathlib.Omega.{arith}
use mathlib.Core.List.{List}
use Rattle.std.specs.List.{swap}
use Rattle.tree.proofs.Perm.{swapped}
use Rattle.select.proofs.Sifting.{swapped-by}
use Rattle.build.proofs.Group.{grow-few, first-inside, first-less, second-inside, second-less, group-built}
use Rattle.build.proofs.+build_group.Goals as goal

-- the median goes to the front
fronted : (l l1 : List ℕ) (r : ℕ) → r < length l → l1 ≡ swap l 0 r → l1 ≡ swapped 0 l 0 r
fronted l l1 r h e = swapped-by l l1 0 r (omega arith) h e

pub returns-then-n-lt2 : goal.returns-then-n-lt2
returns-then-n-lt2 t c = λ f h. grow-few c.args.by.now.cloud.now f c.args.by.now.axis c.args.indices.now c.if-n-lt2.true h

pub build_group-requires : goal.build_group-requires
build_group-requires t c =
    let s = fronted _ _ _ c.select.ensures.within c.swap.ensures.after in (
      omega (arith, first-less _ _ _ _ _ _ _ c.requires c.select.ensures s refl refl, c.decreases),
      first-inside _ _ _ _ _ _ _ c.requires c.select.ensures s refl refl,
    )

pub build_group-requires-2 : goal.build_group-requires-2
build_group-requires-2 t c =
    let s = fronted _ _ _ c.select.ensures.within c.swap.ensures.after in (
      omega (arith, second-less _ _ _ _ _ _ _ c.requires c.select.ensures s refl refl c.build_group.new.indices c.build_group.auto.indices, c.decreases),
      second-inside _ _ _ _ _ _ _ c.requires c.select.ensures s refl refl c.build_group.new.indices c.build_group.auto.indices,
    )

pub returns : goal.returns
returns t c =
    let s = fronted _ _ _ c.select.ensures.within c.swap.ensures.after in
    λ f h.
    group-built _ _ _ _ _ _ _ c.requires c.select.ensures s refl refl c.build_group.new.indices c.build_group.auto.indices c.build_group-2.new.indices c.build_group-2.auto.indices f _ c.next_axis.ensures.0 h c.build_group.ensures c.build_group-2.ensures
