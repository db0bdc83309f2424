-- On the slots of a cloud's tree nothing is lost by pruning: k nearest is the first k of all below infinity, and radius all within. Assumes nothing.
use mathlib.Core.Path.{◌≡◌, sym, ap, ◌∙◌}
use mathlib.Core.Bool.{Bool, true, false, cond}
use mathlib.Core.List.{List, [], ◌∷◌, ◌++◌, map, append_assoc, append-nil}
use Prim.Native.Nat.{ℕ, ◌^◌, ◌<◌}
use lib.Dec.{T}
use lib.ListN.{get_or, take}
use lib.Ieee.{Float, nan, binary32, fits}
use Rattle.space.specs.declared.Point3f.{Point3f}
use Rattle.space.specs.Distance.{distance_squared, square}
use Rattle.space.proofs.Under.{Under, not-below, not_within, distance-fits, distance-plus}
use Rattle.tree.specs.Slots.{Slot, slots}
use Rattle.tree.specs.Part.{laid, lent}
use Rattle.tree.specs.Cloud.{tree_of}
use Rattle.tree.specs.Sort.{sort}
use Rattle.tree.specs.Walk.{order, each}
use Rattle.tree.proofs.Walk.{Idle}
use Rattle.walk.proofs.Built.{built-walk}
use Rattle.lists.specs.Entry.{Entry, entry, far, keep}
use Rattle.lists.specs.KNearest.{place, kth, offer, below_kth, k_nearest, k_nearest_all}
use Rattle.lists.specs.Radius.{within, gather, plane_within, usable, in_radius, in_radius_all}
use Rattle.lists.proofs.KNearest.{k-all}

-- ---- a slot that the plane is under, where the plane is not entered

k-idle : (k : ℕ) (q : Point3f) (pl : Float) (m : Slot) → Under pl (distance_squared q m.point) → Idle (offer k q) (below_kth k) pl m
unfolding offer below_kth entry
k-idle k q pl m u s e = ap (λ (c : Bool). cond c (take k (place (entry q m) s)) s) (not-below pl (distance_squared q m.point) (kth k s) u e)

r-idle : (r : Float) (q : Point3f) (pl : Float) (m : Slot) → Under pl (distance_squared q m.point) → Idle (gather r q) (plane_within r) pl m
unfolding gather plane_within within entry
r-idle r q pl m u s e = ap (λ (c : Bool). cond c (s ++ (entry q m ∷ [])) s) (not_within pl (distance_squared q m.point) (square r) u e)

-- ---- radius looks at every slot

pub r-all : (r : Float) (q : Point3f) (ns : List Slot) (es : List Entry) → each (gather r q) ns es ≡ es ++ keep (within r) (map (entry q) ns)
unfolding each gather keep
r-all r q [] es = sym (append-nil es)
r-all r q (n ∷ ns) es = go (within r (entry q n)) (r-all r q ns)
  where
    rest : List Entry
    rest = keep (within r) (map (entry q) ns)

    go : (c : Bool) → ((fs : List Entry) → each (gather r q) ns fs ≡ fs ++ rest)
        → each (gather r q) ns (cond c (es ++ (entry q n ∷ [])) es) ≡ es ++ cond c (entry q n ∷ rest) rest
    go true ih = ih (es ++ (entry q n ∷ [])) ∙ append_assoc es (entry q n ∷ []) rest
    go false ih = ih es

-- ---- the slots of a cloud's tree

module _ (coords : List Float) (indices : List ℕ) (cloud : List Float) (floats : (i : ℕ) → T (fits binary32 (get_or coords i nan))) (small : (i : ℕ) → get_or indices i 0 < 2 ^ 32)
    (is-tree : slots coords indices ≡ laid (tree_of cloud))
  where
    pub k-built : (q : Point3f) (k : ℕ) → k_nearest q k (lent coords indices) ≡ k_nearest_all q k (tree_of cloud)
    unfolding k_nearest k_nearest_all
    k-built q k =
        built-walk (offer k q) (below_kth k) q (λ pl n u. k-idle k q pl n u) cloud coords indices floats small is-tree []
        ∙ k-all k q (λ n. unfold entry in (distance-plus q n.point, distance-fits q n.point)) (order q 0 (tree_of cloud))

    pub r-built : (q : Point3f) (r : Float) → in_radius q r (lent coords indices) ≡ in_radius_all q r (tree_of cloud)
    unfolding in_radius in_radius_all
    r-built q r =
        ap (λ (es : List Entry). cond (usable r) (sort far es) [])
        (built-walk (gather r q) (plane_within r) q (λ pl n u. r-idle r q pl n u) cloud coords indices floats small is-tree [] ∙ r-all r q (order q 0 (tree_of cloud)) [])
