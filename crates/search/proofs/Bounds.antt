-- "A NaN, zero or negative bound finds nothing unseeded", on any slots: no squared distance is below such a bound, as zero is not. Assumes nothing.
use mathlib.Core.Path.{◌≡◌, refl, sym, ap, ◌∙◌}
use mathlib.Core.Bool.{Bool, true, false, cond}
use mathlib.Core.List.{List}
use Prim.Native.Nat.{ℕ, ◌*◌}
use native.Mathlib.Nat.{zero-mul, le_of_eq}
use lib.Dec.{T}
use lib.IntN.{ℤ, pos}
use lib.Ieee.{Float, nan, inf, fin, binary32, up, down, sub, mul, round, lt, le}
use Rattle.bits.specs.Constants.{nought}
use Rattle.bits.proofs.Compare.{le-of-leq, lt_not_le}
use Rattle.space.specs.declared.Point3f.{Point3f}
use Rattle.space.specs.Distance.{square, square_in, distance_squared}
use Rattle.space.proofs.Under.{Under, under-trans, square-nought-under, under-x, not-below}
use Rattle.tree.specs.Slots.{Slot}
use Rattle.tree.specs.Part.{Part, empty, split, lent}
use Rattle.tree.specs.Grow.{next_axis}
use Rattle.tree.specs.Walk.{walk}
use Rattle.tree.proofs.Walk.{goes_left, plane, entered, walk_step, walk-empty}
use Rattle.walk.proofs.Stack.{entered-idle}
use Rattle.search.specs.Search.{visit, enters, walked, searched}
use Rattle.search.specs.declared.Nearest.TheVariants.{Found, Nothing}
use Rattle.search.proofs.Best.{no}

-- a walk whose looks change nothing changes nothing
module _ {S : Type 0} (visit : Slot → S → S) (enters : Float → S → Bool) (q : Point3f) (s : S) (still : (n : Slot) → visit n s ≡ s) where
  pub walk-still : (axis : ℕ) (t : Part) → walk visit enters q axis t s ≡ s
  walk-still axis empty = walk-empty visit enters q axis s
  walk-still axis (split n l r) =
      walk_step visit enters q axis n l r s
      ∙ ap (λ (u : S). entered visit enters (plane q axis n) (walk visit enters q (next_axis axis) (cond (goes_left q axis n) r l)) (walk visit enters q (next_axis axis) (cond (goes_left q axis n) l r) u)) (still n)
      ∙ go (goes_left q axis n) (walk-still (next_axis axis) l) (walk-still (next_axis axis) r)
    where
      go : (c : Bool) → walk visit enters q (next_axis axis) l s ≡ s → walk visit enters q (next_axis axis) r s ≡ s
          → entered visit enters (plane q axis n) (walk visit enters q (next_axis axis) (cond c r l)) (walk visit enters q (next_axis axis) (cond c l r) s) ≡ s
      go true hl hr =
          ap (entered visit enters (plane q axis n) (walk visit enters q (next_axis axis) r)) hl ∙ entered-idle visit enters (plane q axis n) (walk visit enters q (next_axis axis) r) s hr
      go false hl hr =
          ap (entered visit enters (plane q axis n) (walk visit enters q (next_axis axis) l)) hr ∙ entered-idle visit enters (plane q axis n) (walk visit enters q (next_axis axis) l) s hl

square-nought : square nought ≡ nought
unfolding mul round
square-nought = refl

-- zero is under every squared distance
nought-under : (q p : Point3f) → Under (square nought) (distance_squared q p)
unfolding distance_squared
nought-under q p =
    let x = sub binary32 p.x q.x in
    under-trans (square nought) (square_in binary32 x) (distance_squared q p) (square-nought-under binary32 x)
    (under-x binary32 x (sub binary32 p.y q.y) (sub binary32 p.z q.z))

pub never-below : (q p : Point3f) (bound : Float) → lt nought bound ≡ false → lt (distance_squared q p) bound ≡ false
never-below q p bound h = not-below (square nought) (distance_squared q p) bound (nought-under q p) (ap (λ (x : Float). lt x bound) square-nought ∙ h)

pub finds-nothing : (coords : List Float) (indices : List ℕ) (q : Point3f) (bound : Float) → lt nought bound ≡ false → searched coords indices q bound Nothing ≡ Nothing
unfolding searched walked
finds-nothing coords indices q bound h =
    walk-still (visit q bound) (enters bound) q Nothing (λ n. ap (λ (c : Bool). cond c (Found n.index (distance_squared q n.point)) Nothing) (never-below q n.point bound h)) 0 (lent coords indices)

-- the bounds in question: zero is not below a NaN, below either zero, or below a negative number
not-above : (x : Float) → T (le x nought) → lt nought x ≡ false
not-above x h = no (lt nought x) (λ t. lt_not_le nought x t h)

pub nan-bound : lt nought nan ≡ false
unfolding lt
nan-bound = refl

pub negative-bound : (m : ℕ) (e : ℤ) → lt nought (fin true m e) ≡ false
negative-bound m e = not-above (fin true m e) (le-of-leq true m e false 0 (pos 0) tt)

pub zero-bound : (s : Bool) (e : ℤ) → lt nought (fin s 0 e) ≡ false
zero-bound true e = negative-bound 0 e
zero-bound false e = not-above (fin false 0 e) (le-of-leq false 0 e false 0 (pos 0) (le_of_eq (ap (λ (x : ℕ). x * down (pos 0)) (zero-mul (up e)) ∙ zero-mul (down (pos 0)) ∙ sym (zero-mul (down e)))))

pub least-bound : lt nought (inf true) ≡ false
unfolding lt
least-bound = refl
