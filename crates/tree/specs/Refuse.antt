-- Document 01, "Refusal numbers": what an entry hands back, and each condition. Definitions only.
use Rattle.std.specs.Prelude.{ℕ, ◌*◌, ◌/◌, ◌%◌, Bool, true, false, not, ◌&&◌, ◌||◌, List, [], ◌∷◌, ◌++◌, ltb, eqb, length, drop, Float}

-- "A refusal returns its number alone", or what success gives
pub data Outcome (A : Type 0) : Type 0 where
  refused : ℕ → Outcome A
  gives : A → Outcome A

-- one line of an entry's conditions: those of the lines above it were tested before, those below are tested after it
abbrev pub refuse : {A : Type 0} → ℕ → Bool → Outcome A → Outcome A
refuse n true next = refused n
refuse n false next = next

module _ {A B : Type 0} where
  -- what an entry returns
  abbrev pub returned : (A → B) → Outcome A → Outcome B
  returned f (refused n) = refused n
  returned f (gives a) = gives (f a)

  -- what a lent list holds afterwards: as it was, on a refusal
  abbrev pub left : (A → B) → B → Outcome A → B
  left f old (refused n) = old
  left f old (gives a) = f a

-- "A match entry of 4,294,967,295 means no match, and as a seed no seed"
abbrev pub no_match : ℕ
no_match = 4294967295

-- "over 1,048,576 points or entries"
abbrev pub most_points : ℕ
most_points = 1048576

-- points of a cloud
abbrev pub count : List Float → ℕ
count cloud = length cloud / 3

-- 1: "a cloud's length is no multiple of 3"
abbrev pub ragged : List Float → Bool
ragged cloud = not (eqb (length cloud % 3) 0)

-- 1: "a tree's coordinate length is not 3 times its index length"
abbrev pub uneven : List Float → List ℕ → Bool
uneven coords indices = not (eqb (length coords) (3 * length indices))

-- 1: "the match list is not one entry per source point"
abbrev pub mismatched : List Float → List ℕ → Bool
mismatched source matches = not (eqb (length matches) (count source))

-- 2: "a cloud, tree or match list has over 1,048,576 points or entries"
abbrev pub too_many : ℕ → Bool
too_many n = ltb most_points n

-- 3: "a lent output is too short", where n are needed
abbrev pub short : {A : Type 0} → List A → ℕ → Bool
short out n = ltb (length out) n

-- 4: "matching with an empty source or target"
abbrev pub has_none : List Float → Bool
has_none cloud = eqb (count cloud) 0

-- 5: "a seed or match entry that is not 4,294,967,295 .. is not below the target count" n
unfoldable pub any_entry_outside : ℕ → List ℕ → Bool
any_entry_outside n [] = false
any_entry_outside n (i ∷ is) = (not (eqb i no_match) && not (ltb i n)) || any_entry_outside n is

-- 5: "an index held in the tree, is not below the target count" n
unfoldable pub any_index_outside : ℕ → List ℕ → Bool
any_index_outside n [] = false
any_index_outside n (i ∷ is) = not (ltb i n) || any_index_outside n is

-- "Success writes only what is named below; numbers beyond it keep their values"
abbrev pub overwrite : {A : Type 0} → List A → List A → List A
overwrite new old = new ++ drop (length new) old

-- 1 and 2 of a cloud, and of a lent tree
abbrev pub on_cloud : {A : Type 0} → List Float → Outcome A → Outcome A
on_cloud cloud next = refuse 1 (ragged cloud) (refuse 2 (too_many (count cloud)) next)

abbrev pub on_tree : {A : Type 0} → List Float → List ℕ → Outcome A → Outcome A
on_tree coords indices next = refuse 1 (uneven coords indices) (refuse 2 (too_many (length indices)) next)
