-- Document 01, "Marked examples": the twelve as one statement, through the rules of the public entries. Definitions only.
use Rattle.std.specs.Prelude.{◌≡◌, true, false, None, Some, List, [], ◌∷◌, ℕ, pos, negsuc, Float}
use Rattle.std.specs.Float.{nan, fin}
use Rattle.bits.specs.Constants.{nought, infinite}
use Rattle.space.specs.declared.Point3f.{Point3f}
use Rattle.tree.specs.Refuse.{gives, returned, left, no_match}
use Rattle.build.specs.Entries.{building}
use Rattle.search.specs.declared.Nearest.TheVariants.{Found, Nothing}
use Rattle.search.specs.Search.{bounded, unbounded}
use Rattle.lists.specs.Entry.{indices_in, squares_in}
use Rattle.lists.specs.Entries.{nearest_listing}
use Rattle.radius.specs.Entries.{radius_listing}
use Rattle.matching.specs.Limit.{bound_of}
use Rattle.matching.specs.Matching.{match_in}
use Rattle.frame.specs.Entries.{frame_in}
use Rattle.frame.specs.Frame.{local_point}

-- the numbers of the examples
abbrev pub one1 : Float
one1 = fin false 1 (pos 0)

abbrev pub two2 : Float
two2 = fin false 1 (pos 1)

abbrev pub five5 : Float
five5 = fin false 5 (pos 0)

abbrev pub seventeen : Float
seventeen = fin false 17 (pos 0)

abbrev pub half½ : Float
half½ = fin false 1 (negsuc 0)

abbrev pub quarter : Float
quarter = fin false 1 (negsuc 1)

abbrev pub one_and_half : Float
one_and_half = fin false 3 (negsuc 0)

abbrev pub at : Float → Float → Point3f
at x y = record { x = x; y = y; z = nought }

-- "K: points 0 (1,0,0), 1 (0,0,0), 2 (2,0,0), 3 (0,5,0)"
abbrev pub cloud_k : List Float
cloud_k = one1 ∷ nought ∷ nought ∷ nought ∷ nought ∷ nought ∷ two2 ∷ nought ∷ nought ∷ nought ∷ five5 ∷ nought ∷ []

-- its tree, as it is lent
abbrev pub coords_k : List Float
coords_k = nought ∷ five5 ∷ nought ∷ nought ∷ nought ∷ nought ∷ one1 ∷ nought ∷ nought ∷ two2 ∷ nought ∷ nought ∷ []

abbrev pub indices_k : List ℕ
indices_k = 3 ∷ 1 ∷ 0 ∷ 2 ∷ []

-- two points on the x axis
abbrev pub two_on_x : Float → Float → List Float
two_on_x x y = x ∷ nought ∷ nought ∷ y ∷ nought ∷ nought ∷ []

abbrev pub room12 : List Float
room12 = nought ∷ nought ∷ nought ∷ nought ∷ nought ∷ nought ∷ nought ∷ nought ∷ nought ∷ nought ∷ nought ∷ nought ∷ []

abbrev pub room4 : List Float
room4 = nought ∷ nought ∷ nought ∷ nought ∷ []

abbrev pub places4 : List ℕ
places4 = 9 ∷ 9 ∷ 9 ∷ 9 ∷ []

pub record Examples : Type 0 where
  -- 1. K builds to indices 3, 1, 0, 2.
  pub one : left (λ w. w.indices) places4 (building cloud_k room12 places4) ≡ indices_k
  pub one_count : returned (λ w. w.slots) (building cloud_k room12 places4) ≡ gives 4
  pub one_coords : left (λ w. w.coords) room12 (building cloud_k room12 places4) ≡ coords_k
  -- 2. (1,1,0), bound infinity: index 0, distance 1.
  pub two : bounded coords_k indices_k (at one1 one1) infinite Nothing ≡ gives (Found 0 one1)
  -- 3. (1,1,0), bound 1: nothing.
  pub three : bounded coords_k indices_k (at one1 one1) one1 Nothing ≡ gives Nothing
  -- 4. (1,1,0), limit 1: index 0.
  pub four : bounded coords_k indices_k (at one1 one1) (bound_of (Some one1)) Nothing ≡ gives (Found 0 one1)
  pub four_matched : match_in (one1 ∷ one1 ∷ nought ∷ []) cloud_k coords_k indices_k (Some one1) (no_match ∷ []) ≡ gives (0 ∷ [])
  -- 5. (0.5,0,0): index 0, 0.25.
  pub five : unbounded coords_k indices_k (at half½ nought) ≡ gives (Found 0 quarter)
  -- 6. (0.5,0,0), seed 1 at 0.25: index 1.
  pub six : bounded coords_k indices_k (at half½ nought) infinite (Found 1 quarter) ≡ gives (Found 1 quarter)
  -- 7. (NaN,0,0): nothing.
  pub seven : unbounded coords_k indices_k (at nan nought) ≡ gives Nothing
  -- 8. (1,1,0), k = 4: 0, 2, 1, 3 at 1, 2, 2, 17.
  pub eight : returned indices_in (nearest_listing coords_k indices_k (at one1 one1) 4 places4 room4) ≡ gives (0 ∷ 2 ∷ 1 ∷ 3 ∷ [])
  pub eight_squares : returned squares_in (nearest_listing coords_k indices_k (at one1 one1) 4 places4 room4) ≡ gives (one1 ∷ two2 ∷ two2 ∷ seventeen ∷ [])
  -- 9. (1,1,0), radius 1.5: 0, 2, 1.
  pub nine : returned indices_in (radius_listing coords_k indices_k (at one1 one1) one_and_half places4 room4) ≡ gives (0 ∷ 2 ∷ 1 ∷ [])
  -- 10. Limit 0: bound 2^-149.
  pub ten : bound_of (Some nought) ≡ fin false 1 (negsuc 148)
  -- 11. Cloud x = 99 and 101 (y = z = 0): no frame.
  pub eleven : frame_in (two_on_x (fin false 99 (pos 0)) (fin false 101 (pos 0))) ≡ gives None
  -- 12. Cloud x = 100 and 102: origin 101, locals -1 and 1.
  pub twelve : frame_in (two_on_x (fin false 25 (pos 2)) (fin false 51 (pos 1))) ≡ gives (Some (record { origin = record { x = fin false 101 (pos 0); y = nought; z = nought } }))
  pub twelve_first : local_point (record { origin = record { x = fin false 101 (pos 0); y = nought; z = nought } }) (at (fin false 25 (pos 2)) nought) ≡ at (fin true 1 (pos 0)) nought
  pub twelve_second : local_point (record { origin = record { x = fin false 101 (pos 0); y = nought; z = nought } }) (at (fin false 51 (pos 1)) nought) ≡ at one1 nought
