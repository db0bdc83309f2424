-- Document 01, "The tree": "For m over 0 the number of levels is the length of m written in binary: 1 for m = 1, 3 for 4, 21 for 1,048,576." Definitions only.
use Rattle.std.specs.Prelude.{ℕ, suc, max}
use Rattle.std.specs.Float.Ieee.{size}
use Rattle.tree.specs.Part.{Part, empty, split}

-- the length of m written in binary
unfoldable pub levels : ℕ → ℕ
levels m = size m

-- how many levels a part has
unfoldable pub height : Part → ℕ
height empty = 0
height (split n l r) = suc (max (height l) (height r))
