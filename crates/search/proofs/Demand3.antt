-- On the tree of a cloud of tame points the least computed distance is the exact least, but for one part in 2 ^ 20. Assumes nothing.
use mathlib.Core.Path.{◌≡◌, refl, sym, ap, ◌∙◌, subst}
use mathlib.Core.Bool.{true, false}
use mathlib.Core.List.Permᴰ
use mathlib.Core.List.{List, ◌∷◌, Memᴰ}
use Prim.Native.Nat.{ℕ, ◌<◌}
use lib.Dec.{T}
use lib.Ieee.{Float, nan, inf, fin, lt}
use Rattle.bits.specs.Constants.{infinite}
use Rattle.bits.specs.Finite.{finite}
use Rattle.space.specs.declared.Point3f.{Point3f}
use Rattle.space.specs.Distance.{distance_squared}
use Rattle.space.specs.Exact.{tame, Tame}
use Rattle.space.proofs.Accuracy.{dist-finite, nearest-accurate}
use Rattle.tree.specs.Refuse.{count}
use Rattle.tree.specs.Slots.{slot, point_at}
use Rattle.tree.specs.Cloud.{finite_point, tree_of}
use Rattle.tree.proofs.Perm.{perm-mem}
use Rattle.tree.proofs.Walk.{order-perm}
use Rattle.tree.proofs.Cloud.{tree_of-is, tree_of-has}
use Rattle.search.specs.Demands.{near_first, LeastBelow, FirstLeast, Demand3}
use Rattle.search.specs.declared.Nearest.{Nearest}
use Rattle.search.specs.declared.Nearest.TheVariants.{Found, Nothing}
use Rattle.search.proofs.Best.{yes-no}

tame-finite : (x : Float) → T (tame x) → finite x ≡ true
unfolding finite
tame-finite nan h = absurd h
tame-finite (inf s) h = absurd h
tame-finite (fin s m e) h = refl

tame-point : (p : Point3f) → Tame p → finite_point p ≡ true
unfolding finite_point
tame-point p h = rw (tame-finite p.x h.x, tame-finite p.y h.y, tame-finite p.z h.z)

below-infinite : (x : Float) → T (finite x) → lt x infinite ≡ true
unfolding lt finite
below-infinite nan h = absurd h
below-infinite (inf s) h = absurd h
below-infinite (fin s m e) h = refl

module _ (cloud : List Float) (q : Point3f) (tame-cloud : (i : ℕ) → i < count cloud → Tame (point_at cloud i)) (tame-q : Tame q) where
  -- every point is in near-first order, at a distance below infinity
  there : (j : ℕ) → j < count cloud → Memᴰ (slot (point_at cloud j) j) (near_first cloud q)
  there j h = perm-mem (Permᴰ.symm (order-perm q 0 (tree_of cloud))) (tree_of-has cloud j h (tame-point (point_at cloud j) (tame-cloud j h)))

  some_below : (j : ℕ) → j < count cloud → lt (distance_squared q (point_at cloud j)) infinite ≡ true
  some_below j h = below-infinite (distance_squared q (point_at cloud j)) (dist-finite q (point_at cloud j) tame-q (tame-cloud j h))

  least-exact : (i : ℕ) (d : Float) → FirstLeast q (near_first cloud q) infinite i d → Demand3 cloud q (Found i d)
  least-exact i d f =
      let m : Memᴰ f.found (near_first cloud q) = subst (Memᴰ f.found) (sym f.in_order) (mathlib.Core.List.Memᴰ.append_right f.before (mathlib.Core.List.Memᴰ.head refl)) in
      let s = tree_of-is cloud f.found (perm-mem (order-perm q 0 (tree_of cloud)) m) in
      let h : i < count cloud = subst (λ (k : ℕ). k < count cloud) f.index s.within in
      let e : d ≡ distance_squared q (point_at cloud i) = sym f.distance ∙ ap (distance_squared q) (s.point ∙ ap (point_at cloud) f.index) in
      record {
        index = i;
        distance = d;
        found = refl;
        within = h;
        nearest = λ j k.
            nearest-accurate q (point_at cloud i) (point_at cloud j) tame-q (tame-cloud i h) (tame-cloud j k)
            (subst (λ (x : Float). lt (distance_squared q (point_at cloud j)) x ≡ false) e (f.least (slot (point_at cloud j) j) (there j k)));
      }

  pub demand3 : 0 < count cloud → (answer : Nearest) → LeastBelow q (near_first cloud q) infinite answer → Demand3 cloud q answer
  demand3 some (Found i d) h = least-exact i d h
  demand3 some Nothing h = absurd (yes-no (some_below 0 some) (h (slot (point_at cloud 0) 0) (there 0 some)))
