-- Demands 2 and 3: what an answer means on the tree of a cloud, told of the points alone, without the walk. Definitions only.
use Rattle.std.specs.Prelude.{ℕ, ◌*◌, ◌≤◌, ◌<◌, ◌≡◌, true, false, Result, Ok, Float}
use mathlib.Core.List.{List, ◌∷◌, ◌++◌, Memᴰ}
use Rattle.std.specs.Float.Ieee.{lt, le}
use Rattle.space.specs.declared.Point3f.{Point3f}
use Rattle.space.specs.Distance.{distance_squared}
use Rattle.space.specs.Exact.{Tame, exact}
use Rattle.tree.specs.Refuse.{count}
use Rattle.tree.specs.declared.Refusal.{Refusal}
use Rattle.tree.specs.Slots.{Slot, point_at, slots}
use Rattle.tree.specs.Part.{laid}
use Rattle.tree.specs.Cloud.{tree_of}
use Rattle.tree.specs.Walk.{order}
use Rattle.search.specs.declared.Nearest.{Nearest}
use Rattle.search.specs.declared.Nearest.TheVariants.{Found, Nothing}

-- the lent slots are the tree of the cloud
abbrev pub IsTree : List Float → List Float → List ℕ → Type 0
IsTree cloud coords indices = slots coords indices ≡ laid (tree_of cloud)

-- all indexed points of the cloud, as the query sees them: near-first order of its tree
abbrev pub near_first : List Float → Point3f → List Slot
near_first cloud q = order q 0 (tree_of cloud)

-- no point is below the bound
abbrev pub NoneBelow : Point3f → List Slot → Float → Type 0
NoneBelow q near-first bound = (s : Slot) → Memᴰ s near-first → lt (distance_squared q s.point) bound ≡ false

-- "the least distance strictly below the bound, first in near-first order": index i at distance d
pub record FirstLeast (q : Point3f) (near-first : List Slot) (bound : Float) (i : ℕ) (d : Float) : Type 0 where
  -- a point of near-first order, and what comes before it and after it
  pub before : List Slot
  pub found : Slot
  pub after : List Slot
  pub in_order : near-first ≡ before ++ found ∷ after
  -- has index i and distance d
  pub index : found.index ≡ i
  pub distance : distance_squared q found.point ≡ d
  -- strictly below the bound
  pub below : lt d bound ≡ true
  -- no point is strictly nearer
  pub least : NoneBelow q near-first d
  -- none before it is as near
  pub first : (s : Slot) → Memᴰ s before → le (distance_squared q s.point) d ≡ false

-- "the least distance strictly below the bound, first in near-first order; otherwise nothing"
abbrev pub LeastBelow : Point3f → List Slot → Float → Nearest → Type 0
LeastBelow q near-first bound (Found i d) = FirstLeast q near-first bound i d
LeastBelow q near-first bound Nothing = NoneBelow q near-first bound

-- Demand 2, of an answer on the tree of a cloud
pub record Demand2 (q : Point3f) (near-first : List Slot) (bound : Float) (seed answer : Nearest) : Type 0 where
  -- "without a seed: the least distance strictly below the bound, first in near-first order; otherwise nothing"
  pub unseeded : seed ≡ Nothing → LeastBelow q near-first bound answer
  -- a seed that is not below the bound, so also one with NaN distance, is dropped
  pub dropped : (j : ℕ) (e : Float) → seed ≡ Found j e → lt e bound ≡ false → LeastBelow q near-first bound answer
  -- "With a seed below the bound: the seed, unless an indexed point is strictly nearer"
  pub stays : (j : ℕ) (e : Float) → seed ≡ Found j e → lt e bound ≡ true → NoneBelow q near-first e → answer ≡ Found j e
  -- "then as unseeded below its distance"
  pub gives_way : (j : ℕ) (e : Float) → seed ≡ Found j e → lt e bound ≡ true → (s : Slot) → Memᴰ s near-first → lt (distance_squared q s.point) e ≡ true
      → LeastBelow q near-first e answer

-- Demand 2 of an entry that returned r: for every cloud whose tree the lent slots are, and the answer that r holds
abbrev pub MeetsDemand2 : List Float → List ℕ → Point3f → Float → Nearest → Result Nearest Refusal → Type 0
MeetsDemand2 coords indices q bound seed r =
    (cloud : List Float) (answer : Nearest) → IsTree cloud coords indices → r ≡ Ok answer → Demand2 q (near_first cloud q) bound seed answer

-- Demand 3, of an answer on the tree of a cloud: the index of a point of the cloud that no other is nearer than, exactly, but for one part in 2 ^ 20
pub record Demand3 (cloud : List Float) (q : Point3f) (answer : Nearest) : Type 0 where
  pub index : ℕ
  pub distance : Float
  pub found : answer ≡ Found index distance
  pub within : index < count cloud
  pub nearest : (j : ℕ) → j < count cloud → exact q (point_at cloud index) * 1048576 ≤ exact q (point_at cloud j) * 1048577

-- Demand 3 of an entry that returned r: the cloud holds a point, and all coordinates are multiples of 2^-40 of magnitude at most 2^40
abbrev pub MeetsDemand3 : List Float → List ℕ → Point3f → Result Nearest Refusal → Type 0
MeetsDemand3 coords indices q r =
    (cloud : List Float) (answer : Nearest) → IsTree cloud coords indices → r ≡ Ok answer → 0 < count cloud
    → ((i : ℕ) → i < count cloud → Tame (point_at cloud i)) → Tame q → Demand3 cloud q answer
