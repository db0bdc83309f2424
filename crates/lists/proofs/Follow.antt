-- One walk follows another: where what the first holds is read by h as what the second holds, and the second's slots are the first's under other indices,
-- the two walks go the same way. Assumes nothing.
use mathlib.Core.Path.{◌≡◌, refl, sym, ap, ap₂, ◌∙◌}
use mathlib.Core.Bool.{Bool, true, false, cond}
use Prim.Native.Nat.{ℕ}
use lib.Ieee.{Float}
use Rattle.space.specs.declared.Point3f.{Point3f}
use Rattle.space.specs.Distance.{apart, left_is_near, square}
use Rattle.tree.specs.Slots.{Slot}
use Rattle.tree.specs.Part.{Part, empty, split}
use Rattle.tree.specs.Grow.{next_axis}
use Rattle.tree.specs.Walk.{walk}
use Rattle.tree.proofs.Walk.{goes_left, plane, entered}

-- every slot of a part changed
unfoldable pub changed : (Slot → Slot) → Part → Part
changed g empty = empty
changed g (split n l r) = split (g n) (changed g l) (changed g r)

pub changed-id : (t : Part) → changed (λ n. n) t ≡ t
unfolding changed
changed-id empty = refl
changed-id (split n l r) = ap₂ (split n) (changed-id l) (changed-id r)

module _ {S U : Type 0} (h : S → U) (g : Slot → Slot) (visit : Slot → S → S) (enters : Float → S → Bool) (visit' : Slot → U → U) (enters' : Float → U → Bool) (q : Point3f)
    (points : (n : Slot) → (g n).point ≡ n.point)
    (visits : (n : Slot) (s : S) → h (visit n s) ≡ visit' (g n) (h s))
    (entering : (pl : Float) (s : S) → enters pl s ≡ enters' pl (h s))
  where
    -- node and near part, then the far part if it is entered
    joined : (pl : Float) (near far : S → S) (near' far' : U → U) → ((s : S) → h (near s) ≡ near' (h s)) → ((s : S) → h (far s) ≡ far' (h s))
        → (s : S) → h (entered visit enters pl far (near s)) ≡ entered visit' enters' pl far' (near' (h s))
    joined pl near far near' far' hn hf s =
        go (enters pl (near s))
        ∙ ap (λ (c : Bool). cond c (far' (near' (h s))) (near' (h s))) (entering pl (near s) ∙ ap (enters' pl) (hn s))
      where
        go : (c : Bool) → h (cond c (far (near s)) (near s)) ≡ cond c (far' (near' (h s))) (near' (h s))
        go true = hf (near s) ∙ ap far' (hn s)
        go false = hn s

    pub walk-follows : (axis : ℕ) (t : Part) (s : S) → h (walk visit enters q axis t s) ≡ walk visit' enters' q axis (changed g t) (h s)
    unfolding walk changed
    walk-follows axis empty s = refl
    walk-follows axis (split n l r) s =
        go (goes_left q axis n) (walk-follows (next_axis axis) l) (walk-follows (next_axis axis) r)
        ∙ ap (λ (p : Point3f). entered visit' enters' (square (apart axis q p)) (cond (left_is_near (apart axis q p)) right' left') (cond (left_is_near (apart axis q p)) left' right' (visit' (g n) (h s))))
        (sym (points n))
      where
        left : S → S
        left = walk visit enters q (next_axis axis) l

        right : S → S
        right = walk visit enters q (next_axis axis) r

        left' : U → U
        left' = walk visit' enters' q (next_axis axis) (changed g l)

        right' : U → U
        right' = walk visit' enters' q (next_axis axis) (changed g r)

        go : (c : Bool) → ((u : S) → h (left u) ≡ left' (h u)) → ((u : S) → h (right u) ≡ right' (h u))
            → h (entered visit enters (plane q axis n) (cond c right left) (cond c left right (visit n s)))
            ≡ entered visit' enters' (plane q axis n) (cond c right' left') (cond c left' right' (visit' (g n) (h s)))
        go true hl hr = joined (plane q axis n) left right left' right' hl hr (visit n s) ∙ ap (λ (u : U). entered visit' enters' (plane q axis n) right' (left' u)) (visits n s)
        go false hl hr = joined (plane q axis n) right left right' left' hr hl (visit n s) ∙ ap (λ (u : U). entered visit' enters' (plane q axis n) left' (right' u)) (visits n s)
