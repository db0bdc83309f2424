-- A table over the definitions: what each function of include/ongdhuse.h takes and leaves, on small outcomes. Every row is by computation.
use mathlib.Core.Path.{◌≡◌, refl}
use mathlib.Core.Bool.{true, false}
use mathlib.Core.List.{List, [], ◌∷◌}
use Rattle.std.proofs.Common.{Option, None, Some}
use Prim.Native.Nat.{ℕ}
use lib.IntN.{pos}
use lib.Ieee.{Float, fin}
use Rattle.space.specs.declared.Point3f.{Point3f}
use Rattle.tree.specs.Refuse.{Outcome, refused, gives}
use Rattle.build.specs.Entries as Build
use Rattle.search.specs.declared.Nearest.TheVariants.{Found, Nothing}
use Rattle.lists.specs.Entry.{Entry, indices_in, squares_in}
use Rattle.matching.specs.Pairs as Pairs
use Rattle.sums.specs.declared.Vector3d.{Vector3d}
use Rattle.sums.specs.declared.CorrespondenceStats.{CorrespondenceStats}
use Rattle.frame.specs.declared.LocalFrame.{LocalFrame}
use Rattle.capi.specs.Codes.{code, in_room}
use Rattle.capi.specs.Arguments.{point_of, seed_of, limit_of, sums_of, frame_at}
use Rattle.capi.specs.Answers.{flag_of, start_of, point_numbers, scale_numbers, sum_numbers}
use Rattle.capi.specs.Promises.{Builds, Checks, Finds, Lists, Matches, ListsPairs, Sums, Writes, Frames}

-- sixteen numbers that differ
abbrev n : ℕ → Float
n k = fin false k (pos 0)

abbrev vector : ℕ → ℕ → ℕ → Vector3d
vector a b c = record { x = n a; y = n b; z = n c }

abbrev sums16 : CorrespondenceStats
sums16 =
    record {
      count = 7;
      sum_source = vector 1 2 3;
      sum_target = vector 4 5 6;
      sum_outer_x = vector 7 8 9;
      sum_outer_y = vector 10 11 12;
      sum_outer_z = vector 13 14 15;
      sum_sq_error = n 16;
    }

abbrev numbers16 : List Float
numbers16 = n 1 ∷ n 2 ∷ n 3 ∷ n 4 ∷ n 5 ∷ n 6 ∷ n 7 ∷ n 8 ∷ n 9 ∷ n 10 ∷ n 11 ∷ n 12 ∷ n 13 ∷ n 14 ∷ n 15 ∷ n 16 ∷ []

abbrev point : Point3f
point = record { x = n 1; y = n 2; z = n 3 }

abbrev framed : Outcome (Option LocalFrame)
framed = gives (Some (frame_at (n 1) (n 2) (n 3)))

abbrev built : Outcome Build.Written
built = gives (record { slots = 1; coords = n 1 ∷ n 2 ∷ n 3 ∷ []; indices = 5 ∷ [] })

abbrev entries : Outcome (List Entry)
entries = gives (record { index = 5; distance = n 4 } ∷ [])

abbrev paired : Outcome Pairs.Written
paired = gives (record { number = 1; sources = 5 ∷ []; targets = 6 ∷ [] })

record Table : Type 0 where
  -- "A refusal returns its number alone"; success is 0
  codes : (code {A = ℕ} (refused 4) ≡ 4) × (code {A = ℕ} (gives 9) ≡ 0)
  -- 3 behind 1, 2 and 4, and before 5
  rooms : (in_room {A = ℕ} true (refused 1) ≡ refused 1) × (in_room {A = ℕ} true (refused 4) ≡ refused 4) × (in_room {A = ℕ} true (refused 5) ≡ refused 3)
      × (in_room {A = ℕ} false (refused 5) ≡ refused 5) × (in_room {A = ℕ} true (gives 9) ≡ refused 3) × (in_room {A = ℕ} false (gives 9) ≡ gives 9)
  -- arguments taken together
  points : point_of (n 1) (n 2) (n 3) ≡ point
  seeds : (seed_of 0 5 (n 1) ≡ Nothing) × (seed_of 1 5 (n 1) ≡ Found 5 (n 1)) × (seed_of 2 5 (n 1) ≡ Found 5 (n 1))
  limits : (limit_of 0 (n 1) ≡ None) × (limit_of 1 (n 1) ≡ Some (n 1)) × (limit_of 2 (n 1) ≡ Some (n 1))
  for-mse : ((sums_of 7 (n 16)).count ≡ 7) × ((sums_of 7 (n 16)).sum_sq_error ≡ n 16)
  origin : (frame_at (n 1) (n 2) (n 3)).origin ≡ vector 1 2 3
  -- answers taken apart
  flags : (flag_of true ≡ 1) × (flag_of false ≡ 0)
  starts : (start_of (n 1 ∷ n 2 ∷ n 3 ∷ n 4 ∷ n 5 ∷ n 6 ∷ []) 1 ≡ 3) × (start_of (n 1 ∷ n 2 ∷ n 3 ∷ []) 1 ≡ 3) × (start_of (n 1 ∷ n 2 ∷ n 3 ∷ []) 0 ≡ 0) × (start_of (n 1 ∷ n 2 ∷ []) 0 ≡ 2)
  point-numbers : point_numbers point ≡ n 1 ∷ n 2 ∷ n 3 ∷ []
  scale-numbers : scale_numbers (record { centroid = point; radius = n 4 }) ≡ n 1 ∷ n 2 ∷ n 3 ∷ n 4 ∷ []
  sum-numbers : sum_numbers sums16 ≡ numbers16
  -- what is left behind: on success, with nothing found, and on a refusal
  builds : Builds built 0 (n 0 ∷ []) (9 ∷ []) 8 (n 1 ∷ n 2 ∷ n 3 ∷ []) (5 ∷ []) 1
  builds-not : Builds (refused 3) 3 (n 0 ∷ []) (9 ∷ []) 8 (n 0 ∷ []) (9 ∷ []) 8
  checks : Checks (gives true) 0 8 1
  checks-not : Checks (refused 2) 2 8 8
  finds : Finds (gives (Found 5 (n 1))) 0 8 9 (n 0) 1 5 (n 1)
  finds-nothing : Finds (gives Nothing) 0 8 9 (n 0) 0 9 (n 0)
  finds-not : Finds (refused 1) 1 8 9 (n 0) 8 9 (n 0)
  lists : Lists squares_in entries 0 (9 ∷ 8 ∷ []) (n 0 ∷ n 1 ∷ []) 7 (5 ∷ 8 ∷ []) (n 4 ∷ n 1 ∷ []) 1
  lists-not : Lists squares_in (refused 3) 3 (9 ∷ []) (n 0 ∷ []) 7 (9 ∷ []) (n 0 ∷ []) 7
  matches : Matches (gives (5 ∷ [])) 0 (9 ∷ []) (5 ∷ [])
  matches-not : Matches (refused 5) 5 (9 ∷ []) (9 ∷ [])
  pairs : ListsPairs paired 0 (9 ∷ []) (8 ∷ []) 7 (5 ∷ []) (6 ∷ []) 1
  pairs-not : ListsPairs (refused 3) 3 (9 ∷ []) (8 ∷ []) 7 (9 ∷ []) (8 ∷ []) 7
  sums : Sums (gives sums16) 0 [] 9 numbers16 7
  sums-not : Sums (refused 5) 5 (n 1 ∷ []) 9 (n 1 ∷ []) 9
  writes : Writes point_numbers (gives point) 0 (n 9 ∷ n 9 ∷ n 9 ∷ n 9 ∷ []) (n 1 ∷ n 2 ∷ n 3 ∷ n 9 ∷ [])
  writes-not : Writes point_numbers (refused 3) 3 (n 9 ∷ []) (n 9 ∷ [])
  frames : Frames framed 0 (n 9 ∷ n 9 ∷ n 9 ∷ n 9 ∷ []) 8 (n 1 ∷ n 2 ∷ n 3 ∷ n 9 ∷ []) 1
  frames-none : Frames (gives None) 0 (n 9 ∷ n 9 ∷ n 9 ∷ []) 8 (n 9 ∷ n 9 ∷ n 9 ∷ []) 0
  frames-not : Frames (refused 1) 1 (n 9 ∷ []) 8 (n 9 ∷ []) 8

table : Table
unfolding indices_in squares_in
table =
    record {
      codes = (refl, refl);
      rooms = (refl, refl, refl, refl, refl, refl);
      points = refl;
      seeds = (refl, refl, refl);
      limits = (refl, refl, refl);
      for-mse = (refl, refl);
      origin = refl;
      flags = (refl, refl);
      starts = (refl, refl, refl, refl);
      point-numbers = refl;
      scale-numbers = refl;
      sum-numbers = refl;
      builds = record { told = refl; coords = refl; indices = refl; count = refl };
      builds-not = record { told = refl; coords = refl; indices = refl; count = refl };
      checks = record { told = refl; flag = refl };
      checks-not = record { told = refl; flag = refl };
      finds = record { told = refl; flag = refl; which = refl; far = refl };
      finds-nothing = record { told = refl; flag = refl; which = refl; far = refl };
      finds-not = record { told = refl; flag = refl; which = refl; far = refl };
      lists = record { told = refl; indices = refl; distances = refl; number = refl };
      lists-not = record { told = refl; indices = refl; distances = refl; number = refl };
      matches = record { told = refl; entries = refl };
      matches-not = record { told = refl; entries = refl };
      pairs = record { told = refl; source = refl; target = refl; number = refl };
      pairs-not = record { told = refl; source = refl; target = refl; number = refl };
      sums = record { told = refl; numbers = refl; number = refl };
      sums-not = record { told = refl; numbers = refl; number = refl };
      writes = record { told = refl; numbers = refl };
      writes-not = record { told = refl; numbers = refl };
      frames = record { told = refl; origin = refl; flag = refl };
      frames-none = record { told = refl; origin = refl; flag = refl };
      frames-not = record { told = refl; origin = refl; flag = refl };
    }
