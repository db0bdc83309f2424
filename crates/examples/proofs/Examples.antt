-- The twelve marked examples, each by computation of the definitions.
use mathlib.Core.Path.{refl}
use lib.Ieee.{add, sub, mul, div, neg, sum, round, units, odd, size, of_int, lt, le, eq, to_bits, of_bits, of_fields}
use Rattle.bits.specs.Finite.{finite}
use Rattle.bits.specs.NextUp.{next_up}
use Rattle.bits.specs.Convert.{widen, narrow}
use Rattle.bits.specs.Root.{root, whole_root, root_digits}
use Rattle.bits.specs.Key.{key}
use Rattle.space.specs.Distance.{distance_squared, apart, left_is_near}
use Rattle.tree.specs.Refuse.{any_entry_outside, any_index_outside}
use Rattle.tree.specs.Slots.{slots, numbers_of, indices_of, rank}
use Rattle.tree.specs.Part.{laid, part_of, lent}
use Rattle.tree.specs.Sort.{insert, sort}
use Rattle.tree.specs.Grow.{grow}
use Rattle.tree.specs.Cloud.{points, finite_point, finite_from, indexed, tree_of}
use Rattle.tree.specs.Walk.{walk}
use Rattle.build.specs.Entries.{written}
use Rattle.search.specs.Search.{bounded, unbounded, searched, walked}
use Rattle.lists.specs.Entry.{entry, far, indices_in, squares_in}
use Rattle.lists.specs.KNearest.{place, kth, offer, below_kth, k_nearest}
use Rattle.lists.specs.Entries.{nearest_listing}
use Rattle.lists.specs.Radius.{within, gather, plane_within, usable, in_radius}
use Rattle.radius.specs.Entries.{radius_listing}
use Rattle.matching.specs.Limit.{bound_of}
use Rattle.matching.specs.Entries.{entries_from}
use Rattle.matching.specs.Matching.{seed_of, answer_for, match_all, match_in}
use Rattle.frame.specs.Moments.{add_point, add_points, moments_of, divisor, mean}
use Rattle.frame.specs.Frame.{at_least_nought, radius, scale_of, frame_on, near, frame_of, local_point}
use Rattle.frame.specs.Entries.{frame_in}
use Rattle.examples.specs.Examples.{Examples}

pub examples : Examples
unfolding
    written laid tree_of grow indexed finite_from finite_point points finite sort insert rank key to_bits size numbers_of indices_of
    unbounded bounded searched walked walk lent part_of slots distance_squared apart left_is_near add sub mul neg sum round le lt eq
    bound_of next_up of_bits of_fields odd nearest_listing k_nearest offer below_kth kth place entry indices_in squares_in
    match_in match_all answer_for seed_of entries_from any_entry_outside any_index_outside radius_listing in_radius usable within gather plane_within far
    frame_in frame_of near scale_of radius frame_on local_point moments_of add_points add_point divisor mean at_least_nought root whole_root root_digits narrow widen units div of_int
examples =
    record {
      one = refl;
      one_count = refl;
      one_coords = refl;
      two = refl;
      three = refl;
      four = refl;
      four_matched = refl;
      five = refl;
      six = refl;
      seven = refl;
      eight = refl;
      eight_squares = refl;
      nine = refl;
      ten = refl;
      eleven = refl;
      twelve = refl;
      twelve_first = refl;
      twelve_second = refl;
    }
