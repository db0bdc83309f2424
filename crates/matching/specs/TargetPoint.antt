-- Document 01, "Matching, sums and frames": "An entry that hands back the three numbers of a target point gives that part of the cloud itself, and the
-- empty part for an index outside or a cloud that refusal 1 or 2 would meet; it gives no number." Definitions only.
use Rattle.std.specs.Prelude.{ℕ, ◌+◌, ◌*◌, Bool, not, ◌||◌, cond, List, [], ltb, take, drop, Float}
use Rattle.tree.specs.Refuse.{ragged, too_many, count}

-- there is no such point
abbrev pub no_point : List Float → ℕ → Bool
no_point cloud i = ragged cloud || too_many (count cloud) || not (ltb i (count cloud))

-- what the part holds
unfoldable pub part_at : List Float → ℕ → List Float
part_at cloud i = cond (no_point cloud i) [] (take 3 (drop (3 * i) cloud))

-- Where it begins, when the cloud begins at a block and an offset in bytes: at the point's own first number, four bytes to a number.
-- The empty part stands at the cloud's start.
unfoldable pub place_of : ℕ × ℕ → List Float → ℕ → ℕ × ℕ
place_of start cloud i = (start.0, start.1 + 4 * cond (no_point cloud i) 0 (3 * i))
