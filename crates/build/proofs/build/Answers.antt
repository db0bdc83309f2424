-- `build` meets its contract: each refusal, and the tree on success.
use mathlib.Core.Path.{◌≡◌, sym, ap, subst, ◌∙◌}
use mathlib.Core.List.{List, ◌++◌}
use Prim.Native.Nat.{ℕ, ◌≤◌, ◌%◌}
use native.Mathlib.Omega.{arith}
use lib.ListN.{length, take, drop, length-append}
use lib.Seq.{take_at}
use lib.Ieee.{Float}
use Rattle.tree.specs.Slots.{numbers_of}
use Rattle.tree.specs.Refuse.{count, most_points, overwrite}
use Rattle.tree.proofs.Outcomes.{cloud-given}
use Rattle.select.specs.Order.{slots_of, Inside}
use Rattle.build.specs.Gather.{Gathered}
use Rattle.build.proofs.Answer.{accepted, m-few, front_long, front-inside, built-inside, success}
use Rattle.build.proofs.build.Goals as goal
use Rattle.build.proofs.build.Goals.{After-gather-m}

-- the cloud is accepted, and its points are gathered
module _ (c : After-gather-m) where
  told : (length c.args.cloud.now % 3 ≡ 0) × (count c.args.cloud.now ≤ most_points) × (c.in_ok-points.points ≡ c.args.cloud.now)
  told = cloud-given c.args.cloud.now c.in_ok-points.ensures

  n-is : c.len-n.result ≡ count c.args.cloud.now
  n-is = c.len-n.ensures.all ∙ ap count told.2

  gathered : Gathered c.args.cloud.now c.gather-m.result c.args.indices.now c.gather-m.new.indices
  gathered = subst (λ (u : List Float). Gathered u c.gather-m.result c.args.indices.now c.gather-m.new.indices) told.2 c.gather-m.ensures

  room : count c.args.cloud.now ≤ length c.gather-m.new.indices
  room = omega (arith, n-is, c.if-indices-n.false, c.gather-m.auto.indices)

  few : c.gather-m.result ≤ count c.args.cloud.now
  few = m-few c.args.cloud.now c.args.coords.now c.args.indices.now c.gather-m.result c.gather-m.new.indices gathered told.1 told.0 room

  long : length (take c.gather-m.result c.gather-m.new.indices) ≡ c.gather-m.result
  long = front_long c.args.cloud.now c.args.coords.now c.args.indices.now c.gather-m.result c.gather-m.new.indices gathered told.1 told.0 room

  -- the group of all, once it is built
  laid_long : (j : List ℕ) → length j ≡ length (take c.gather-m.result c.gather-m.new.indices)
      → length (take c.gather-m.result (j ++ drop c.gather-m.result c.gather-m.new.indices)) ≡ c.gather-m.result
  laid_long j e = ap length (take_at j (drop c.gather-m.result c.gather-m.new.indices) c.gather-m.result (e ∙ long)) ∙ e ∙ long

pub slice_bounds-build_group-end : goal.slice_bounds-build_group-end
slice_bounds-build_group-end c = let at = (goal.at.slice_bounds-build_group-end c).After-gather-m in omega (arith, few at, room at)

pub slice_bounds-build_group-end-2 : goal.slice_bounds-build_group-end-2
slice_bounds-build_group-end-2 c = sym (long (goal.at.slice_bounds-build_group-end-2 c).After-gather-m)

pub build_group-requires : goal.build_group-requires
build_group-requires c =
    let at = (goal.at.build_group-requires c).After-gather-m in
    front-inside c.args.cloud.now c.args.coords.now c.args.indices.now c.gather-m.result c.gather-m.new.indices (gathered at) (told at).1 (told at).0 (room at)

pub slice_bounds-lay-end : goal.slice_bounds-lay-end
slice_bounds-lay-end c =
    let at = (goal.at.slice_bounds-lay-end c).After-gather-m in
    omega (arith, long at, c.build_group.auto.indices, length-append c.build_group.new.indices (drop c.gather-m.result c.gather-m.new.indices))

pub slice_bounds-lay-end-2 : goal.slice_bounds-lay-end-2
slice_bounds-lay-end-2 c =
    let at = (goal.at.slice_bounds-lay-end-2 c).After-gather-m in
    sym (laid_long at c.build_group.new.indices c.build_group.auto.indices)

pub lay-requires : goal.lay-requires
lay-requires c =
    let at = (goal.at.lay-requires c).After-gather-m in (
      omega (arith, laid_long at c.build_group.new.indices c.build_group.auto.indices, few at, n-is at, c.if-coords-n.false),
      subst (λ (u : List Float). Inside u (take c.gather-m.result (c.build_group.new.indices ++ drop c.gather-m.result c.gather-m.new.indices))) (sym (told at).2)
          (built-inside c.args.cloud.now c.args.coords.now c.args.indices.now c.gather-m.result c.gather-m.new.indices (gathered at) (told at).1 (told at).0 (room at) c.build_group.new.indices c.build_group.auto.indices c.build_group.ensures),
    )

pub returns : goal.returns
returns c =
    let at = (goal.at.returns c).After-gather-m in
    let is = c.build_group.new.indices ++ drop c.gather-m.result c.gather-m.new.indices in
    success c.args.cloud.now c.args.coords.now c.args.indices.now c.gather-m.result c.gather-m.new.indices (gathered at) (told at).1 (told at).0 (room at) c.build_group.new.indices c.build_group.auto.indices c.build_group.ensures c.lay.new.coords
    (c.lay.ensures ∙ ap (λ (u : List Float). overwrite (numbers_of (slots_of u (take c.gather-m.result is))) c.args.coords.now) (told at).2)
    (accepted c.args.cloud.now c.args.coords.now c.args.indices.now (told at).0 (told at).1 (omega (arith, n-is at, c.if-coords-n.false)) (omega (arith, n-is at, c.if-indices-n.false)))
