-- Laws of the indexed points of a cloud and of its tree: which slots they are, that an index says which, that the tree holds them in order, and that lent slots
-- which are its slots are the tree. Assumes nothing.
use mathlib.Core.Path.{◌≡◌, refl, sym, ap, ap₂, ◌∙◌, subst}
use mathlib.Core.Bool.{Bool, true, false, cond}
use mathlib.Core.Logic.{⊎_elim}
use mathlib.Core.List.{List, [], ◌∷◌, ◌++◌}
use mathlib.Core.List.Memᴰ
use mathlib.Core.List.{Memᴰ}
use mathlib.Core.List.Permᴰ
use mathlib.Core.List.{Permᴰ}
use Prim.Native.Nat.{ℕ, zero, suc, ◌+◌, ◌/◌, ◌≤◌, ◌<◌}
use native.Mathlib.Nat.{not-suc-le-zero, le_of_suc-le-suc}
use native.Mathlib.Omega.{arith}
use lib.ListN.{length, get_or, take, length-take}
use lib.Seq.{take-suc, take_all, length-take-le}
use lib.Ieee.{Float}
use Rattle.space.specs.declared.Point3f.{Point3f}
use Rattle.tree.specs.Refuse.{count, most_points}
use Rattle.tree.specs.Slots.{Slot, slot, point_at, slots}
use Rattle.tree.specs.Part.{laid, part_of, lent}
use Rattle.tree.specs.Grow.{grow}
use Rattle.tree.specs.Levels.{levels, height}
use Rattle.tree.specs.Cloud.{points, finite_point, finite_from, indexed, tree_of}
use Rattle.tree.proofs.Perm.{perm-length, perm-mem, Distinct}
use Rattle.tree.proofs.Slots.{point-drop, slots_length}
use Rattle.tree.proofs.Ordered.{Ordered, laid-perm, grow-ordered}
use Rattle.tree.proofs.Shape.{part_of-laid, laid-part_of}
use Rattle.tree.proofs.Grow.{Known, grow-fuel, grow-unique}
use Rattle.tree.proofs.Levels.{height-grow}

-- ---- points

third : (n : ℕ) → suc (suc (suc n)) / 3 ≡ suc (n / 3)
third n = omega arith

pub points-length : (cloud : List Float) → length (points cloud) ≡ count cloud
unfolding points
points-length [] = refl
points-length (x ∷ []) = refl
points-length (x ∷ y ∷ []) = refl
points-length (x ∷ y ∷ z ∷ rest) = ap suc (points-length rest) ∙ sym (third (length rest))

pub points-get_or : (cloud : List Float) (k : ℕ) (d : Point3f) → k < count cloud → get_or (points cloud) k d ≡ point_at cloud k
unfolding points
points-get_or [] k d h = absurd (not-suc-le-zero h)
points-get_or (x ∷ []) k d h = absurd (not-suc-le-zero h)
points-get_or (x ∷ y ∷ []) k d h = absurd (not-suc-le-zero h)
points-get_or (x ∷ y ∷ z ∷ rest) zero d h = refl
points-get_or (x ∷ y ∷ z ∷ rest) (suc k) d h = points-get_or rest k d (omega (arith, third (length rest))) ∙ point-drop (x ∷ y ∷ z ∷ rest) k

-- ---- the finite ones among points

-- where a slot stands among points
pub record Among (i : ℕ) (ps : List Point3f) (s : Slot) : Type 0 where
  pub place : ℕ
  pub within : place < length ps
  pub index : s.index ≡ i + place
  pub point : (d : Point3f) → s.point ≡ get_or ps place d
  pub finite : finite_point s.point ≡ true

pub finite-among : (i : ℕ) (ps : List Point3f) (s : Slot) → Memᴰ s (finite_from i ps) → Among i ps s
unfolding finite_from
finite-among i [] s m = absurd (Memᴰ.not-nil m)
finite-among i (p ∷ ps) s m = go (finite_point p) refl m (λ n. finite-among (suc i) ps s n)
  where
    later : Among (suc i) ps s → Among i (p ∷ ps) s
    later a = record { place = suc a.place; within = omega (arith, a.within); index = omega (arith, a.index); point = a.point; finite = a.finite }

    go : (c : Bool) → finite_point p ≡ c → Memᴰ s (cond c (slot p i ∷ finite_from (suc i) ps) (finite_from (suc i) ps))
        → (Memᴰ s (finite_from (suc i) ps) → Among (suc i) ps s) → Among i (p ∷ ps) s
    go true e n k =
        ⊎_elim
        (λ (f : s ≡ slot p i).
        record {
          place = 0;
          within = omega arith;
          index = omega (arith, ap (λ (u : Slot). u.index) f);
          point = λ d. ap (λ (u : Slot). u.point) f;
          finite = ap (λ (u : Slot). finite_point u.point) f ∙ e;
        })
        (λ (l : Memᴰ s (finite_from (suc i) ps)). later (k l))
        (Memᴰ.cases_cons n)
    go false e n k = later (k n)

pub finite-all : (i : ℕ) (ps : List Point3f) (k : ℕ) (d : Point3f) → k < length ps → finite_point (get_or ps k d) ≡ true
    → Memᴰ (slot (get_or ps k d) (i + k)) (finite_from i ps)
unfolding finite_from
finite-all i [] k d h e = absurd (not-suc-le-zero h)
finite-all i (p ∷ ps) zero d h e =
    subst (λ (c : Bool). Memᴰ (slot p (i + 0)) (cond c (slot p i ∷ finite_from (suc i) ps) (finite_from (suc i) ps))) (sym e)
    (Memᴰ.head (ap (slot p) (omega arith)))
finite-all i (p ∷ ps) (suc k) d h e = go (finite_point p) (finite-all (suc i) ps k d (le_of_suc-le-suc h) e)
  where
    same : suc i + k ≡ i + suc k
    same = omega arith

    go : (c : Bool) → Memᴰ (slot (get_or ps k d) (suc i + k)) (finite_from (suc i) ps)
        → Memᴰ (slot (get_or ps k d) (i + suc k)) (cond c (slot p i ∷ finite_from (suc i) ps) (finite_from (suc i) ps))
    go true n = Memᴰ.tail (subst (λ (j : ℕ). Memᴰ (slot (get_or ps k d) j) (finite_from (suc i) ps)) same n)
    go false n = subst (λ (j : ℕ). Memᴰ (slot (get_or ps k d) j) (finite_from (suc i) ps)) same n

finite-length : (i : ℕ) (ps : List Point3f) → length (finite_from i ps) ≤ length ps
unfolding finite_from
finite-length i [] = omega arith
finite-length i (p ∷ ps) = go (finite_point p) (finite-length (suc i) ps)
  where
    go : (c : Bool) → length (finite_from (suc i) ps) ≤ length ps → length (cond c (slot p i ∷ finite_from (suc i) ps) (finite_from (suc i) ps)) ≤ suc (length ps)
    go true h = omega arith
    go false h = omega arith

-- ---- the indexed points of a cloud

pub indexed-length : (cloud : List Float) → length (indexed cloud) ≤ count cloud
unfolding indexed
indexed-length cloud = omega (arith, finite-length 0 (points cloud), points-length cloud)

-- what an indexed slot is: its index is a point's, and it holds that point, which is finite
pub record Indexed (cloud : List Float) (s : Slot) : Type 0 where
  pub within : s.index < count cloud
  pub point : s.point ≡ point_at cloud s.index
  pub finite : finite_point s.point ≡ true

pub indexed-is : (cloud : List Float) (s : Slot) → Memᴰ s (indexed cloud) → Indexed cloud s
unfolding indexed
indexed-is cloud s m =
    let a = finite-among 0 (points cloud) s m in
    let e : a.place ≡ s.index = omega (arith, a.index) in
    let h : a.place < count cloud = omega (arith, a.within, points-length cloud) in
    record {
      within = omega arith;
      point = a.point s.point ∙ points-get_or cloud a.place s.point h ∙ ap (point_at cloud) e;
      finite = a.finite;
    }

-- and every finite point is indexed
pub indexed-has : (cloud : List Float) (i : ℕ) → i < count cloud → finite_point (point_at cloud i) ≡ true → Memᴰ (slot (point_at cloud i) i) (indexed cloud)
unfolding indexed
indexed-has cloud i h e =
    let g : get_or (points cloud) i (point_at cloud i) ≡ point_at cloud i = points-get_or cloud i (point_at cloud i) h in
    let m = finite-all 0 (points cloud) i (point_at cloud i) (omega (arith, points-length cloud)) (ap finite_point g ∙ e) in
    let z : 0 + i ≡ i = omega arith in
    subst (λ (p : Point3f). Memᴰ (slot p i) (finite_from 0 (points cloud))) g
    (subst (λ (j : ℕ). Memᴰ (slot (get_or (points cloud) i (point_at cloud i)) j) (finite_from 0 (points cloud))) z m)

-- the slot of an index
pub indexed-slot : (cloud : List Float) (s : Slot) → Memᴰ s (indexed cloud) → s ≡ slot (point_at cloud s.index) s.index
indexed-slot cloud s m = ap (λ (p : Point3f). slot p s.index) (indexed-is cloud s m).point

pub indexed-known : (cloud : List Float) → count cloud ≤ most_points → Known (indexed cloud)
indexed-known cloud h =
    record {
      small = λ s m. omega (arith, (indexed-is cloud s m).within);
      told = λ s t m n e. indexed-slot cloud s m ∙ ap (λ (i : ℕ). slot (point_at cloud i) i) e ∙ sym (indexed-slot cloud t n);
    }

-- no two indexed points have one index
finite-distinct : (i : ℕ) (ps : List Point3f) → Distinct (λ s. s.index) (finite_from i ps)
unfolding finite_from Distinct
finite-distinct i [] = tt
finite-distinct i (p ∷ ps) = go (finite_point p) (finite-distinct (suc i) ps)
  where
    go : (c : Bool) → Distinct (λ s. s.index) (finite_from (suc i) ps)
        → Distinct (λ s. s.index) (cond c (slot p i ∷ finite_from (suc i) ps) (finite_from (suc i) ps))
    go true d = (λ t m e. omega (arith, (finite-among (suc i) ps t m).index), d)
    go false d = d

pub indexed-distinct : (cloud : List Float) → Distinct (λ s. s.index) (indexed cloud)
unfolding indexed
indexed-distinct cloud = finite-distinct 0 (points cloud)

-- ---- point by point

-- the indexed ones of the first n points
unfoldable pub up_to : List Float → ℕ → List Slot
up_to cloud n = finite_from 0 (take n (points cloud))

-- the point i, if it is indexed
abbrev pub if_finite : List Float → ℕ → List Slot
if_finite cloud i = cond (finite_point (point_at cloud i)) (slot (point_at cloud i) i ∷ []) []

finite-snoc : (i : ℕ) (ps : List Point3f) (p : Point3f) → finite_from i (ps ++ (p ∷ [])) ≡ finite_from i ps ++ cond (finite_point p) (slot p (i + length ps) ∷ []) []
unfolding finite_from
finite-snoc i [] p =
    let e : i ≡ i + 0 = omega arith in
    ap (λ (j : ℕ). cond (finite_point p) (slot p j ∷ []) []) e
finite-snoc i (q ∷ ps) p =
    go (finite_point q) (finite-snoc (suc i) ps p ∙ ap (λ (j : ℕ). finite_from (suc i) ps ++ cond (finite_point p) (slot p j ∷ []) []) same)
  where
    same : suc i + length ps ≡ i + suc (length ps)
    same = omega arith

    go : (c : Bool)
        → finite_from (suc i) (ps ++ (p ∷ [])) ≡ finite_from (suc i) ps ++ cond (finite_point p) (slot p (i + suc (length ps)) ∷ []) []
        → cond c (slot q i ∷ finite_from (suc i) (ps ++ (p ∷ []))) (finite_from (suc i) (ps ++ (p ∷ [])))
        ≡ cond c (slot q i ∷ finite_from (suc i) ps) (finite_from (suc i) ps) ++ cond (finite_point p) (slot p (i + suc (length ps)) ∷ []) []
    go true e = ap (λ (u : List Slot). slot q i ∷ u) e
    go false e = e

pub up_to-zero : (cloud : List Float) → up_to cloud 0 ≡ []
unfolding up_to finite_from
up_to-zero cloud = refl

pub up_to-suc : (cloud : List Float) (n : ℕ) → n < count cloud → up_to cloud (suc n) ≡ up_to cloud n ++ if_finite cloud n
unfolding up_to
up_to-suc cloud n h =
    let len : length (take n (points cloud)) ≡ n = length-take-le n (points cloud) (omega (arith, points-length cloud)) in
    let z : 0 + length (take n (points cloud)) ≡ n = omega arith in
    ap (finite_from 0) (take-suc (points cloud) n (point_at cloud n) (omega (arith, points-length cloud)))
    ∙ finite-snoc 0 (take n (points cloud)) (get_or (points cloud) n (point_at cloud n))
    ∙ ap₂ (λ (p : Point3f) (j : ℕ). finite_from 0 (take n (points cloud)) ++ cond (finite_point p) (slot p j ∷ []) [])
    (points-get_or cloud n (point_at cloud n) h) z

pub up_to-all : (cloud : List Float) (n : ℕ) → count cloud ≤ n → up_to cloud n ≡ indexed cloud
unfolding up_to indexed
up_to-all cloud n h = ap (finite_from 0) (take_all n (points cloud) (omega (arith, points-length cloud)))

pub up_to-length : (cloud : List Float) (n : ℕ) → length (up_to cloud n) ≤ n
unfolding up_to
up_to-length cloud n = omega (arith, finite-length 0 (take n (points cloud)), length-take n (points cloud))

-- ---- the tree of a cloud

pub tree_of-fuel : (cloud : List Float) (f : ℕ) → length (indexed cloud) ≤ f → tree_of cloud ≡ grow f 0 (indexed cloud)
unfolding tree_of
tree_of-fuel cloud f h = grow-fuel (length (indexed cloud)) f 0 (indexed cloud) (omega arith) h

pub tree_of-perm : (cloud : List Float) → Permᴰ (laid (tree_of cloud)) (indexed cloud)
unfolding tree_of
tree_of-perm cloud = laid-perm (length (indexed cloud)) 0 (indexed cloud) (omega arith)

pub tree_of-length : (cloud : List Float) → length (laid (tree_of cloud)) ≡ length (indexed cloud)
tree_of-length cloud = perm-length (tree_of-perm cloud)

pub tree_of-ordered : (cloud : List Float) → Ordered 0 (tree_of cloud)
unfolding tree_of
tree_of-ordered cloud = grow-ordered (length (indexed cloud)) 0 (indexed cloud) (omega arith)

pub tree_of-height : (cloud : List Float) → height (tree_of cloud) ≡ levels (length (indexed cloud))
unfolding tree_of
tree_of-height cloud = height-grow (length (indexed cloud)) 0 (indexed cloud) (omega arith)

-- a slot of the tree is an indexed one
pub tree_of-is : (cloud : List Float) (s : Slot) → Memᴰ s (laid (tree_of cloud)) → Indexed cloud s
tree_of-is cloud s m = indexed-is cloud s (perm-mem (tree_of-perm cloud) m)

pub tree_of-has : (cloud : List Float) (i : ℕ) → i < count cloud → finite_point (point_at cloud i) ≡ true
    → Memᴰ (slot (point_at cloud i) i) (laid (tree_of cloud))
tree_of-has cloud i h e = perm-mem (Permᴰ.symm (tree_of-perm cloud)) (indexed-has cloud i h e)

-- ---- lent slots

pub lent_laid : (coords : List Float) (indices : List ℕ) → laid (lent coords indices) ≡ slots coords indices
unfolding lent
lent_laid coords indices = laid-part_of (length indices) (slots coords indices) (omega (arith, slots_length coords indices))

-- those of the tree are the tree
pub lent-tree : (cloud coords : List Float) (indices : List ℕ) → slots coords indices ≡ laid (tree_of cloud) → lent coords indices ≡ tree_of cloud
unfolding lent tree_of
lent-tree cloud coords indices e =
    ap (part_of (length indices)) e
    ∙ part_of-laid (length indices) (length (indexed cloud)) 0 (indexed cloud)
    (omega (arith, slots_length coords indices, ap length e, tree_of-length cloud))
    (omega arith)

-- slots that are the indexed points in any order, in order at each node, are the tree
pub lent-unique : (cloud coords : List Float) (indices : List ℕ) → count cloud ≤ most_points → Permᴰ (slots coords indices) (indexed cloud)
    → Ordered 0 (lent coords indices) → lent coords indices ≡ tree_of cloud
unfolding lent tree_of
lent-unique cloud coords indices h p o =
    grow-unique (length indices) (length (indexed cloud)) 0 (slots coords indices) (indexed cloud) p (indexed-known cloud h)
    (omega (arith, slots_length coords indices, perm-length p))
    (omega arith)
    o
