-- A table over the definitions: examples 11 and 12 of document 01, and the smallest clouds at which a wrong reading gives another answer.
-- Every row is by computation.
use mathlib.Core.Path.{◌≡◌, refl}
use mathlib.Core.Bool.{true, false}
use mathlib.Core.List.{List, [], ◌∷◌}
use Rattle.std.proofs.Common.{None, Some}
use lib.IntN.{pos, negsuc}
use lib.Ieee.{Float, nan, inf, fin, add, sub, mul, div, neg, sum, round, units, odd, size, of_int, lt, le, eq}
use Rattle.bits.specs.Constants.{nought}
use Rattle.bits.specs.Finite.{finite}
use Rattle.bits.specs.Convert.{widen, narrow}
use Rattle.bits.specs.Root.{root, whole_root, root_digits}
use Rattle.space.specs.declared.Point3f.{Point3f}
use Rattle.tree.specs.Cloud.{points, finite_point}
use Rattle.tree.specs.Refuse.{refused, gives}
use Rattle.frame.specs.declared.LocalFrame.{LocalFrame}
use Rattle.frame.specs.Moments.{add_point, add_points, moments_of, divisor, mean}
use Rattle.frame.specs.Frame.{at_least_nought, radius, scale_of, frame_on, near, frame_of, local_point}
use Rattle.frame.specs.Entries.{scale_in, centred_in, frame_in}

abbrev #1 : Float
#1 = fin false 1 (pos 0)

abbrev -1 : Float
-1 = fin true 1 (pos 0)

abbrev #2 : Float
#2 = fin false 1 (pos 1)

abbrev #99 : Float
#99 = fin false 99 (pos 0)

abbrev #100 : Float
#100 = fin false 25 (pos 2)

abbrev #101 : Float
#101 = fin false 101 (pos 0)

abbrev #102 : Float
#102 = fin false 51 (pos 1)

abbrev -0 : Float
-0 = fin true 0 (pos 0)

-- two points on the x axis
abbrev pair : Float → Float → List Float
pair a b = a ∷ nought ∷ nought ∷ b ∷ nought ∷ nought ∷ []

abbrev on_x : Float → Point3f
on_x a = record { x = a; y = nought; z = nought }

abbrev frame_at : Float → LocalFrame
frame_at a = record { origin = record { x = a; y = nought; z = nought } }

-- a point three times over, whose spread comes out below 0 in f64
abbrev thrice : List Float
thrice =
    let x = fin false 15099495 (negsuc 23) in
    let y = fin false 1745879 (negsuc 18) in
    let z = fin false 16043213 (negsuc 19) in
    x ∷ y ∷ z ∷ x ∷ y ∷ z ∷ x ∷ y ∷ z ∷ []

record Table : Type 0 where
  -- examples 11 and 12: the norm is 100 and the radius 1; a frame exists only above that
  example-11 : frame_in (pair #99 #101) ≡ gives None
  example-12 : frame_in (pair #100 #102) ≡ gives (Some (frame_at #101))
  example-12-locals : (local_point (frame_at #101) (on_x #100) ≡ on_x -1) × (local_point (frame_at #101) (on_x #102) ≡ on_x #1)
  -- non-finite points are skipped, and do not count
  skipped : scale_in (nan ∷ nought ∷ nought ∷ #99 ∷ nought ∷ nought ∷ nought ∷ inf true ∷ nought ∷ #101 ∷ nought ∷ nought ∷ []) ≡ gives (record { centroid = on_x #100; radius = #1 })
  -- none left: n is 1
  empty : (scale_in [] ≡ gives (record { centroid = on_x nought; radius = nought })) × (centred_in (nan ∷ nan ∷ nan ∷ []) ≡ gives (frame_at nought))
  empty-near : frame_in [] ≡ gives None
  -- every sum starts from +0
  signless : centred_in (-0 ∷ -0 ∷ -0 ∷ []) ≡ gives (frame_at nought)
  -- a spread below 0 counts as 0
  spread : (scale_of thrice).radius ≡ nought
  -- one point away from the origin has no size: far, wherever it is
  single : frame_in (#1 ∷ nought ∷ nought ∷ []) ≡ gives (Some (frame_at #1))
  -- the refusals, and the greatest norm
  ragged : (scale_in (#1 ∷ []) ≡ refused 1) × (centred_in (#1 ∷ #1 ∷ []) ≡ refused 1) × (frame_in (#1 ∷ #1 ∷ #1 ∷ #1 ∷ []) ≡ refused 1)
  -- a local point is rounded once, when it is narrowed
  rounded : local_point (frame_at (fin false 1 (negsuc 29))) (on_x #1) ≡ on_x #1
  -- the cases of the answers
  -- added left to right: 1, 1 and 2 ^ 53
  left-to-right : (moments_of (#1 ∷ nought ∷ nought ∷ #1 ∷ nought ∷ nought ∷ fin false 1 (pos 53) ∷ nought ∷ nought ∷ [])).sum.x ≡ fin false 4503599627370497 (pos 1)
  -- the origin is the f64 mean, 4/3, and a local point is taken from it before it is narrowed
  in-f64 : centred_in (#1 ∷ nought ∷ nought ∷ #1 ∷ nought ∷ nought ∷ #2 ∷ nought ∷ nought ∷ []) ≡ gives (frame_at (fin false 6004799503160661 (negsuc 51)))
  narrowed-last : local_point (frame_at (fin false 1073741825 (negsuc 29))) (on_x #1) ≡ on_x (fin true 1 (negsuc 29))
  -- 0 and 4: the spread is 4, the radius its root; and the root is an f64 before it is narrowed, here just above a half-way point
  rooted : scale_of (pair nought (fin false 1 (pos 2))) ≡ record { centroid = on_x #2; radius = #2 }
  rooted-in-f64 : radius (record { count = 1; sum = record { x = nought; y = nought; z = nought }; sum_sq = fin false 4503600164241425 (negsuc 51) }) ≡ #1
  -- the norm is an f32, and y and z are in it
  norm-overflows : near (record { centroid = on_x (fin false 1 (pos 64)); radius = fin false 1 (pos 63) }) ≡ false
  norms : (near (record { centroid = record { x = nought; y = #1; z = nought }; radius = nought }) ≡ false) × (near (record { centroid = record { x = nought; y = nought; z = #1 }; radius = nought }) ≡ false)

table : Table
unfolding scale_in centred_in frame_in moments_of add_points add_point points finite_point finite mean divisor radius scale_of frame_on near frame_of local_point at_least_nought root whole_root root_digits narrow widen add sub mul div neg sum round units odd size of_int lt le eq
table =
    record {
      example-11 = refl;
      example-12 = refl;
      example-12-locals = (refl, refl);
      skipped = refl;
      empty = (refl, refl);
      empty-near = refl;
      signless = refl;
      spread = refl;
      single = refl;
      ragged = (refl, refl, refl);
      rounded = refl;
      left-to-right = refl;
      in-f64 = refl;
      narrowed-last = refl;
      rooted = refl;
      rooted-in-f64 = refl;
      norm-overflows = refl;
      norms = (refl, refl);
    }
