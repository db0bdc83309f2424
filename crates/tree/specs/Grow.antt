-- Document 01, "The tree": the build. Definitions only.
use Rattle.std.specs.Prelude.{ℕ, zero, suc, ◌/◌, List, [], ◌∷◌, length, take, drop, get_or}
use Rattle.tree.specs.Slots.{Slot, none, rank}
use Rattle.tree.specs.Part.{Part, empty, split}
use Rattle.tree.specs.Sort.{sort}

-- "Axis is depth mod 3 (x, y, z)": one level deeper
abbrev pub next_axis : ℕ → ℕ
next_axis zero = 1
next_axis (suc zero) = 2
next_axis (suc (suc a)) = 0

-- "For a group of L points the median rank is (L - 1)/2 rounded down, counted from 0 .. The build is recursive: the median is the root,
-- lower ranks form the left part, higher ranks the right, each built one level deeper." f is at least L.
unfoldable pub grow : ℕ → ℕ → List Slot → Part
unfolding sort rank
grow zero axis ss = empty
grow (suc f) axis [] = empty
grow (suc f) axis (s ∷ ss) =
    let ranked = sort (rank axis) (s ∷ ss) in
    let median = length ss / 2 in
    split (get_or ranked median none) (grow f (next_axis axis) (take median ranked)) (grow f (next_axis axis) (drop (suc median) ranked))
