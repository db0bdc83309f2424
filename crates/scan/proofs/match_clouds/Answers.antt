-- `match_clouds`: the build answers, and matching in its slots writes the list.
use Rattle.std.proofs.Common.{None}
use native.Mathlib.Omega.{arith}
use mathlib.Core.Path.{◌≡◌, refl}
use lib.ListN.{length}
use Rattle.matching.specs.Promises.{Matches}
use Rattle.tree.specs.Slots.{numbers_of, indices_of}
use Rattle.scan.proofs.Trees.{tree_slots, slots-few, coords-front, indices-front, coords-length, slots_length, front_fits}
use Rattle.scan.proofs.Entries.{is_matched, entries-are, entries-inside, in_tree}
use borrow.Author.Rules.{rules}
use Rattle.scan.proofs.match_clouds.Goals as goal
use Rattle.scan.proofs.match_clouds.Goals.{After-find_correspondences_seeded}

pub overflow_mul-k : goal.overflow_mul-k
overflow_mul-k c =
    omega (arith, slots-few c.args.target.now c.requires.0.whole c.requires.0.few_targets c.build.ensures refl refl c.unwrap-m.ensures)

pub slice_bounds-coords-end : goal.slice_bounds-coords-end
slice_bounds-coords-end c =
    front_fits _ _ (coords-length c.args.target.now c.requires.0.whole c.requires.0.few_targets c.build.ensures refl refl c.unwrap-m.ensures _ refl)

pub slice_bounds-find_correspondences_seeded-end : goal.slice_bounds-find_correspondences_seeded-end
slice_bounds-find_correspondences_seeded-end c =
    coords-length c.args.target.now c.requires.0.whole c.requires.0.few_targets c.build.ensures refl refl c.unwrap-m.ensures _ refl

pub slice_bounds-indices-end : goal.slice_bounds-indices-end
slice_bounds-indices-end c =
    front_fits _ _ (slots_length c.args.target.now c.requires.0.whole c.requires.0.few_targets c.build.ensures refl refl c.unwrap-m.ensures)

pub slice_bounds-find_correspondences_seeded-end-2 : goal.slice_bounds-find_correspondences_seeded-end-2
slice_bounds-find_correspondences_seeded-end-2 c =
    slots_length c.args.target.now c.requires.0.whole c.requires.0.few_targets c.build.ensures refl refl c.unwrap-m.ensures

-- matching in the slots that the build left
matched : (c : After-find_correspondences_seeded) → Matches c.args.source.now c.args.target.now (numbers_of (tree_slots c.args.target.now)) (indices_of (tree_slots c.args.target.now)) None c.args.matches.now c.find_correspondences_seeded.result c.find_correspondences_seeded.new.matches
matched c =
    let T = c.args.target.now in
    in_tree c.args.source.now T c.args.matches.now c.requires.0 c.requires.1
    (coords-front T c.requires.0.whole c.requires.0.few_targets c.build.ensures refl refl c.unwrap-m.ensures _ refl)
    (indices-front T c.requires.0.whole c.requires.0.few_targets c.build.ensures refl refl c.unwrap-m.ensures)
    c.find_correspondences_seeded.ensures

pub unwrap-requires : goal.unwrap-requires
unwrap-requires c = is_matched c.args.source.now c.args.target.now c.args.matches.now c.requires.0 c.requires.1 (matched (goal.at.unwrap-requires c).After-find_correspondences_seeded)

pub returns : goal.returns
returns c =
    let S = c.args.source.now in
    let T = c.args.target.now in
    let M = c.args.matches.now in
    let m = matched (goal.at.returns c).After-find_correspondences_seeded in
    let same : length c.find_correspondences_seeded.new.matches ≡ length M = search rules in
    (entries-are S T M c.requires.0 c.requires.1 m, entries-inside S T M c.requires.0 c.requires.1 m same)
