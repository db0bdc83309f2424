-- `target_point`: three numbers from the point's first on, by the three tests of `no_point`. By hand, so that of a wrong body the check shows what differs.
use Prim.Native.Nat.{ℕ, ◌+◌, ◌-◌, ◌*◌, ◌%◌, ◌<◌, ◌≤◌}
use native.Mathlib.Omega.{arith}
use mathlib.Core.Path.{◌≡◌, ap, ◌∙◌}
use mathlib.Core.Bool.{Bool, false, cond}
use mathlib.Core.List.{List, []}
use lib.ListN.{length, take, drop}
use lib.Ieee.{Float}
use borrow.Author.Tests.{lt-ltb, le-ltb, eq-eqb}
use Rattle.tree.specs.Refuse.{count, most_points}
use Rattle.matching.specs.TargetPoint.{no_point, part_at, place_of}
use Rattle.matching.specs.Promises.{HandsPart}
use Rattle.matching.proofs.target_point.Goals as goal

three : (a : ℕ) → a + 3 - a ≡ 3
three a = omega arith

four_each : (a o : ℕ) → a * 4 + o ≡ o + 4 * a
four_each a o = omega arith

of_point : (start : ℕ × ℕ) (cloud : List Float) (i : ℕ) → length cloud % 3 ≡ 0 → count cloud ≤ most_points → i < count cloud
    → HandsPart start cloud i (start.0, 3 * i * 4 + start.1) (take (3 * i + 3 - 3 * i) (drop (3 * i) cloud))
unfolding part_at place_of
of_point start cloud i p q r =
    let there : false ≡ no_point cloud i = simp (eq-eqb _ _ p, le-ltb _ _ q, lt-ltb _ _ r) in
    record {
      holds = ap (λ (k : ℕ). take k (drop (3 * i) cloud)) (three (3 * i)) ∙ ap (λ (b : Bool). cond b [] (take 3 (drop (3 * i) cloud))) there;
      stands = ap (λ (k : ℕ). (start.0, k)) (four_each (3 * i) start.1) ∙ ap (λ (b : Bool). (start.0, start.1 + 4 * cond b 0 (3 * i))) there;
    }

pub returns : goal.returns
returns c = let a = c.args in of_point a.cloud.ref_ptr a.cloud.now a.index c.if-cloud-ne0.false c.if-n-gt-MAX_POINTS.false c.if-n-i.false
