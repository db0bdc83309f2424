-- The moments of a cloud, turn by turn: one point more. Assumes nothing.
use mathlib.Core.Path.{◌≡◌, sym, ap, ◌∙◌}
use mathlib.Core.Bool.{Bool, true, false, cond}
use mathlib.Core.List.{List, ◌∷◌}
use Prim.Native.Nat.{ℕ, ◌+◌, ◌≤◌, ◌<◌}
use native.Mathlib.Numerals.{add-one}
use native.Mathlib.Omega.{arith}
use lib.ListN.{length, get_or, drop, drop_of_length-le}
use lib.Seq.{drop-cons}
use lib.Ieee.{Float, binary64, add}
use Rattle.space.specs.declared.Point3f.{Point3f}
use Rattle.tree.specs.Slots.{point_at}
use Rattle.tree.specs.Cloud.{points, finite_point}
use Rattle.tree.specs.Refuse.{count}
use Rattle.tree.proofs.Cloud.{points-length, points-get_or}
use Rattle.sums.specs.Vector.{wide_point, plus, norm_squared}
use Rattle.frame.specs.declared.Moments.{Moments}
use Rattle.frame.specs.Moments.{zero_moments, add_point, add_points, moments_of}

point-count : (m : Moments) (p : Point3f) → (add_point m p).count ≤ m.count + 1
unfolding add_point
point-count m p = go (finite_point p)
  where
    go : (b : Bool) → (cond b (record { count = m.count + 1; sum = plus m.sum (wide_point p); sum_sq = add binary64 m.sum_sq (norm_squared (wide_point p)) }) m).count ≤ m.count + 1
    go true = omega arith
    go false = omega arith

-- the points before i are in m
pub record Gathering (cloud : List Float) (m : Moments) (i : ℕ) : Type 0 where
  pub within : i ≤ count cloud
  pub few : m.count ≤ i
  pub rest : add_points m (drop i (points cloud)) ≡ moments_of cloud

module _ {cloud : List Float} where
  pub gathering-begins : (m : Moments) → m ≡ zero_moments → Gathering cloud m 0
  unfolding moments_of
  gathering-begins m e =
      let n : m.count ≡ 0 = ap (λ (u : Moments). u.count) e in
      record { within = omega arith; few = omega arith; rest = rw e }

  pub gathering-goes : {m : Moments} {i : ℕ} → Gathering cloud m i → i < count cloud → (p : Point3f) → p ≡ point_at cloud i → (t : Moments) → t ≡ add_point m p → Gathering cloud t (i + 1)
  unfolding add_points
  gathering-goes {m} {i} g h p y t q =
      let n : t.count ≡ (add_point m p).count = ap (λ (u : Moments). u.count) q in
      let ps : List Point3f = points cloud in
      let w : i < length ps = omega (arith, points-length cloud) in
      let s : drop i ps ≡ p ∷ drop (i + 1) ps =
      drop-cons ps i p w ∙ ap (λ (k : ℕ). get_or ps i p ∷ drop k ps) (sym (add-one i)) ∙ ap (λ (a : Point3f). a ∷ drop (i + 1) ps) (points-get_or cloud i p h ∙ sym y) in
      record {
        within = omega arith;
        few = omega (arith, point-count m p, g.few);
        rest = ap (λ (u : Moments). add_points u (drop (i + 1) ps)) q ∙ sym (ap (add_points m) s) ∙ g.rest;
      }

  pub gathering-ends : {m : Moments} {i : ℕ} → Gathering cloud m i → count cloud ≤ i → m ≡ moments_of cloud
  unfolding add_points
  gathering-ends {m} {i} g h =
      let w : length (points cloud) ≤ i = omega (arith, points-length cloud) in
      ap (add_points m) (sym (drop_of_length-le (points cloud) w)) ∙ g.rest
