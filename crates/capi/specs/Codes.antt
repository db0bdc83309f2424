-- What every function of the C interface says of its outcome: a code. What it leaves in a lent place is `left` of that outcome. Definitions only.
use Rattle.std.specs.Prelude.{ℕ, Bool, ◌&&◌, eqb}
use Rattle.tree.specs.Refuse.{Outcome, refused, gives, refuse}

-- "A refusal returns its number alone"; success is 0
abbrev pub code : {A : Type 0} → Outcome A → ℕ
code (refused n) = n
code (gives a) = 0

-- 3: "a lent output is too short", for an output of which the entry knows nothing. "Tested in the order 1, 2, 4, 3, 5": behind the entry's 1, 2 and 4, and before its 5.
abbrev pub in_room : {A : Type 0} → Bool → Outcome A → Outcome A
in_room lacking (refused n) = refuse 3 (eqb n 5 && lacking) (refused n)
in_room lacking (gives a) = refuse 3 lacking (gives a)
