-- Document 01, "Distance and near-first order": the order, and the one pruned walk that bounded search, k nearest and radius share. Definitions only.
use Rattle.std.specs.Prelude.{ℕ, Bool, List, [], ◌∷◌, ◌++◌, Float}
use Rattle.std.proofs.Math.Bool.{cond}
use Rattle.space.specs.declared.Point3f.{Point3f}
use Rattle.space.specs.Distance.{apart, left_is_near, square}
use Rattle.tree.specs.Slots.{Slot}
use Rattle.tree.specs.Part.{Part, empty, split}
use Rattle.tree.specs.Grow.{next_axis}

-- "Near-first order is node, near part, far part, with nothing left out"
unfoldable pub order : Point3f → ℕ → Part → List Slot
unfolding apart left_is_near
order q axis empty = []
order q axis (split n l r) =
    let left = order q (next_axis axis) l in
    let right = order q (next_axis axis) r in
    n ∷ cond (left_is_near (apart axis q n.point)) (left ++ right) (right ++ left)

-- every slot of a list is looked at, first to last
module _ {S : Type 0} (visit : Slot → S → S) where
  unfoldable pub each : List Slot → S → S
  each [] s = s
  each (n ∷ ns) s = each ns (visit n s)

-- The pruned walk, whatever a search holds: `visit` looks at a node; `enters` judges a far part by its a·a.
-- "A far part is judged when its near part is done"
module _ {S : Type 0} (visit : Slot → S → S) (enters : Float → S → Bool) (q : Point3f) where
  unfoldable pub walk : ℕ → Part → S → S
  unfolding apart left_is_near
  walk axis empty s = s
  walk axis (split n l r) s =
      let a = apart axis q n.point in
      let near : S → S = cond (left_is_near a) (walk (next_axis axis) l) (walk (next_axis axis) r) in
      let far : S → S = cond (left_is_near a) (walk (next_axis axis) r) (walk (next_axis axis) l) in
      let seen : S = near (visit n s) in
      cond (enters (square a) seen) (far seen) seen
