-- On lent slots that are the tree of a cloud the pruned walk of any search is a look at every slot in near-first order, if only a look changes nothing at a slot that the plane is under.
-- Assumes nothing.
use mathlib.Core.Path.{◌≡◌, sym, ap, ◌∙◌, subst}
use mathlib.Core.Bool.{Bool, true, false, ◌&&◌, true≢false}
use mathlib.Core.List.Memᴰ
use mathlib.Core.List.{List, [], ◌∷◌, Memᴰ}
use Prim.Native.Nat.{ℕ, suc, ◌+◌, ◌^◌, ◌≤◌, ◌<◌}
use native.Mathlib.Omega.{arith}
use lib.Dec.{T}
use lib.ListN.{get_or, drop}
use lib.Seq.{get_or-drop}
use lib.Ieee.{Float, nan, binary32, fits}
use lib.Ieee.Fits.{and_l, and_r}
use Rattle.bits.specs.Finite.{finite}
use Rattle.bits.specs.Key.{key}
use Rattle.space.specs.declared.Point3f.{Point3f}
use Rattle.space.specs.Distance.{on, distance_squared}
use Rattle.space.proofs.Under.{Under}
use Rattle.space.proofs.Prune.{Indexed, prune}
use Rattle.tree.specs.Slots.{Slot, slots, rank}
use Rattle.tree.specs.Part.{Part, laid, lent}
use Rattle.tree.specs.Cloud.{finite_point, tree_of}
use Rattle.tree.specs.Walk.{order, each, walk}
use Rattle.tree.proofs.Walk.{goes_left, plane, Idle}
use Rattle.tree.proofs.Ordered.{ordered-walk}
use Rattle.tree.proofs.Cloud.{tree_of-ordered, tree_of-is, lent-tree}

-- ---- what lent slots are made of: f32 numbers and u32 indices

pub record Lent (s : Slot) : Type 0 where
  pub fits-x : T (fits binary32 s.point.x)
  pub fits-y : T (fits binary32 s.point.y)
  pub fits-z : T (fits binary32 s.point.z)
  pub small : s.index < 2 ^ 32

pub slots_lent : (coords : List Float) (indices : List ℕ) → ((i : ℕ) → T (fits binary32 (get_or coords i nan))) → ((i : ℕ) → get_or indices i 0 < 2 ^ 32)
    → (s : Slot) → Memᴰ s (slots coords indices) → Lent s
unfolding slots
slots_lent coords [] f g s m = absurd (Memᴰ.not-nil m)
slots_lent coords (i ∷ is) f g s (Memᴰ.head e) = rw e (record { fits-x = f 0; fits-y = f 1; fits-z = f 2; small = g 0 })
slots_lent coords (i ∷ is) f g s (Memᴰ.tail m) =
    slots_lent (drop 3 coords) is (λ k. subst (λ (x : Float). T (fits binary32 x)) (sym (get_or-drop 3 coords k nan)) (f (3 + k))) (λ k. g (suc k)) s m

-- and finite, in a tree
abbrev Good : Slot → Type 0
Good s = Indexed s.point × (s.index < 2 ^ 32)

good : (s : Slot) → Lent s → finite_point s.point ≡ true → Good s
unfolding finite_point
good s l e =
    let p = s.point in
    let all : T (finite_point p) = subst T (sym e) tt in
    let xy = and_l (finite p.x && finite p.y) (finite p.z) all in (
      record {
        fits-x = l.fits-x;
        fits-y = l.fits-y;
        fits-z = l.fits-z;
        finite-x = and_l (finite p.x) (finite p.y) xy;
        finite-y = and_r (finite p.x) (finite p.y) xy;
        finite-z = and_r (finite p.x && finite p.y) (finite p.z) all;
      },
      l.small,
    )

-- ---- ranks in order are keys in order, for indices of 32 bits
pub rank-key : (axis : ℕ) (n m : Slot) → m.index < 2 ^ 32 → rank axis n ≤ rank axis m → key (on axis n.point) ≤ key (on axis m.point)
unfolding rank
rank-key axis n m h k = omega arith

-- ---- the walk
module _ {S : Type 0} (visit : Slot → S → S) (enters : Float → S → Bool) (q : Point3f)
    (idle : (pl : Float) (n : Slot) → Under pl (distance_squared q n.point) → Idle visit enters pl n)
  where
    right-idle : (axis : ℕ) (n m : Slot) → Good n → Good m → goes_left q axis n ≡ true → rank axis n ≤ rank axis m → Idle visit enters (plane q axis n) m
    right-idle axis n m N M e h =
        idle (plane q axis n) m
        (prune axis q n.point m.point N.0 M.0 (λ _. rank-key axis n m M.1 h) (λ f. absurd (true≢false (sym e ∙ f))))

    left-idle : (axis : ℕ) (n m : Slot) → Good n → Good m → goes_left q axis n ≡ false → rank axis m ≤ rank axis n → Idle visit enters (plane q axis n) m
    left-idle axis n m N M e h =
        idle (plane q axis n) m
        (prune axis q n.point m.point N.0 M.0 (λ t. absurd (true≢false (sym t ∙ e))) (λ _. rank-key axis m n N.1 h))

    pub built-walk : (cloud coords : List Float) (indices : List ℕ) → ((i : ℕ) → T (fits binary32 (get_or coords i nan))) → ((i : ℕ) → get_or indices i 0 < 2 ^ 32)
        → slots coords indices ≡ laid (tree_of cloud) → (s : S) → walk visit enters q 0 (lent coords indices) s ≡ each visit (order q 0 (tree_of cloud)) s
    built-walk cloud coords indices f g e s =
        ap (λ (t : Part). walk visit enters q 0 t s) (lent-tree cloud coords indices e)
        ∙ ordered-walk visit enters q Good right-idle left-idle 0 (tree_of cloud) (tree_of-ordered cloud)
        (λ n m. good n (slots_lent coords indices f g n (subst (Memᴰ n) (sym e) m)) (tree_of-is cloud n m).finite) s
