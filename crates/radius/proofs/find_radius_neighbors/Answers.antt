-- `find_radius_neighbors`: refused, empty, or what is within, with indices and roots.
use mathlib.Core.List.{[]}
use native.Mathlib.Omega.{arith}
use lib.ListN.{length}
use lib.Ieee.{of_bits}
use Rattle.tree.proofs.Outcomes.{handed_on}
use Rattle.lists.proofs.Rule.{held_fits}
use Rattle.radius.proofs.Result.{held-lent, held-long, named-slots, count_small, radius-refused, radius-given, radius-empty}
use Rattle.radius.proofs.find_radius_neighbors.Goals as goal

pub returns-in_err-tree : goal.returns-in_err-tree
returns-in_err-tree c = let a = c.args in rw (handed_on _ _ c.from_residual.ensures.1) (radius-refused a.coords.now a.indices.now a.query a.radius a.out_indices.now a.out_distances.now c.type_inv.coords (λ i. (c.type_inv.indices i).fits) _ c.in_err-tree.ensures.rule)

pub name_slots-requires : goal.name_slots-requires
name_slots-requires c =
    let h = held-lent c.args.query c.args.radius c.in_ok-tree.ensures.lent c.slots_within-count.ensures in
    let a = c.args in
    (held-long [] h, named-slots a.coords.now (length a.indices.now) a.query a.radius c.in_ok-tree.ensures.few h)

pub take_roots-requires : goal.take_roots-requires
take_roots-requires c = held_fits c.slots_within-count.ensures

pub overflow_cast-result : goal.overflow_cast-result
overflow_cast-result c = omega (arith, c.in_ok-tree.ensures.few, count_small c.args.coords.now (length c.args.indices.now) c.args.query c.args.radius c.in_ok-tree.ensures.few (held-lent c.args.query c.args.radius c.in_ok-tree.ensures.lent c.slots_within-count.ensures))

pub returns-then-radius : goal.returns-then-radius
unfolding of_bits
returns-then-radius c =
    let a = c.args in
    radius-given a.coords.now a.indices.now a.query a.radius a.out_indices.now a.out_distances.now c.type_inv.coords (λ i. (c.type_inv.indices i).fits) c.in_ok-tree.ensures.rule c.if-radius.true
    (held-lent c.args.query c.args.radius c.in_ok-tree.ensures.lent c.slots_within-count.ensures) c.name_slots.ensures c.take_roots.ensures

pub returns : goal.returns
unfolding of_bits
returns c = radius-empty c.args.coords.now c.args.indices.now c.args.query c.args.radius c.args.out_indices.now c.args.out_distances.now c.type_inv.coords (λ i. (c.type_inv.indices i).fits) c.in_ok-tree.ensures.rule c.if-radius.false
