-- Example 1 of document 01, through the entry's definition: K builds to the indices 3, 1, 0, 2 and their coordinates; numbers beyond keep their values.
-- And the checking entry's definition: yes to that tree, no to it with the sign of a zero changed.
use mathlib.Core.Path.{◌≡◌, refl}
use mathlib.Core.Bool.{true, false}
use mathlib.Core.List.{List, [], ◌∷◌}
use lib.IntN.{pos}
use lib.Ieee.{Float, fin, to_bits, size}
use Rattle.bits.specs.Finite.{finite}
use Rattle.bits.specs.Key.{key}
use Rattle.tree.specs.Refuse.{refused, gives, returned, left}
use Rattle.tree.specs.Slots.{slots, rank, numbers_of, indices_of}
use Rattle.tree.specs.Sort.{sort, insert}
use Rattle.tree.specs.Part.{laid}
use Rattle.tree.specs.Grow.{grow}
use Rattle.tree.specs.Cloud.{points, finite_point, finite_from, indexed, tree_of}
use Rattle.build.specs.Entries.{written, building, same_slots, checking}

abbrev o : Float
o = fin false 0 (pos 0)

abbrev minus-o : Float
minus-o = fin true 0 (pos 0)

abbrev i : Float
i = fin false 1 (pos 0)

abbrev ii : Float
ii = fin false 1 (pos 1)

abbrev v : Float
v = fin false 5 (pos 0)

abbrev k : List Float
k = i ∷ o ∷ o ∷ o ∷ o ∷ o ∷ ii ∷ o ∷ o ∷ o ∷ v ∷ o ∷ []

abbrev k-coords : List Float
k-coords = o ∷ v ∷ o ∷ o ∷ o ∷ o ∷ i ∷ o ∷ o ∷ ii ∷ o ∷ o ∷ []

-- lent one slot more than needed
abbrev lent-coords : List Float
lent-coords = v ∷ v ∷ v ∷ v ∷ v ∷ v ∷ v ∷ v ∷ v ∷ v ∷ v ∷ v ∷ v ∷ ii ∷ []

pub record Example1 : Type 0 where
  pub count : returned (λ w. w.slots) (building k lent-coords (9 ∷ 9 ∷ 9 ∷ 9 ∷ 9 ∷ [])) ≡ gives 4
  pub indices : left (λ w. w.indices) [] (building k lent-coords (9 ∷ 9 ∷ 9 ∷ 9 ∷ 9 ∷ [])) ≡ 3 ∷ 1 ∷ 0 ∷ 2 ∷ 9 ∷ []
  pub coords : left (λ w. w.coords) [] (building k lent-coords (9 ∷ 9 ∷ 9 ∷ 9 ∷ 9 ∷ []))
      ≡ o ∷ v ∷ o ∷ o ∷ o ∷ o ∷ i ∷ o ∷ o ∷ ii ∷ o ∷ o ∷ v ∷ ii ∷ []
  pub short : returned (λ w. w.slots) (building k k-coords (9 ∷ 9 ∷ 9 ∷ [])) ≡ refused 3
  pub yes : checking k k-coords (3 ∷ 1 ∷ 0 ∷ 2 ∷ []) ≡ gives true
  pub no : checking k (minus-o ∷ v ∷ o ∷ o ∷ o ∷ o ∷ i ∷ o ∷ o ∷ ii ∷ o ∷ o ∷ []) (3 ∷ 1 ∷ 0 ∷ 2 ∷ []) ≡ gives false

pub example-1 : Example1
unfolding written points finite_point finite finite_from indexed tree_of grow sort insert laid rank key to_bits size numbers_of indices_of slots same_slots
example-1 = record { count = refl; indices = refl; coords = refl; short = refl; yes = refl; no = refl }
