-- Near-first order holds each slot once, and the pruned walk is a look at every slot in that order wherever each slot behind a plane that is not entered is idle:
-- one law for every search. Assumes nothing.
use mathlib.Core.Path.{◌≡◌, refl, sym, ap, ◌∙◌}
use mathlib.Core.Bool.{Bool, true, false, cond}
use mathlib.Core.List.{List, [], ◌∷◌, ◌++◌}
use mathlib.Core.List.{Memᴰ}
use mathlib.Core.List.Permᴰ
use mathlib.Core.List.{Permᴰ}
use Prim.Native.Nat.{ℕ}
use lib.Ieee.{Float}
use Rattle.space.specs.declared.Point3f.{Point3f}
use Rattle.tree.specs.Slots.{Slot}
use Rattle.tree.specs.Part.{Part, empty, split, laid}
use Rattle.tree.specs.Grow.{next_axis}
use Rattle.tree.specs.Walk.{order, each, walk}
use Rattle.tree.proofs.Step.{laid-step}
pub use Rattle.tree.proofs.Step.{goes_left, plane, near_part, far_part, order-step, entered, walk-empty, walk_step}
use Rattle.tree.proofs.Perm.{perm-mem, perm-append}

-- what holds of both sides of a node holds of the near and of the far one
either : (P : Part → Type 0) (l r : Part) → P l → P r → (c : Bool) → P (cond c l r)
either P l r pl pr true = pl
either P l r pl pr false = pr

-- ---- near-first order

-- "with nothing left out"
pub order-perm : (q : Point3f) (axis : ℕ) (t : Part) → Permᴰ (order q axis t) (laid t)
unfolding order laid
order-perm q axis empty = Permᴰ.nil
order-perm q axis (split n l r) =
    rw (order-step q axis n l r, laid-step n l r)
    (Permᴰ.cons refl
    (Permᴰ.trans
    (perm-append (either Held l r (order-perm q (next_axis axis) l) (order-perm q (next_axis axis) r) (goes_left q axis n))
    (either Held r l (order-perm q (next_axis axis) r) (order-perm q (next_axis axis) l) (goes_left q axis n)))
    (sides (goes_left q axis n))))
  where
    Held : Part → Type 0
    Held t = Permᴰ (order q (next_axis axis) t) (laid t)

    sides : (c : Bool) → Permᴰ (laid (cond c l r) ++ laid (cond c r l)) (laid l ++ laid r)
    sides true = Permᴰ.refl (laid l ++ laid r)
    sides false = Permᴰ.append_comm (laid r) (laid l)

-- ---- every slot of a list

module _ {S : Type 0} (visit : Slot → S → S) where
  pub each_append : (a b : List Slot) (s : S) → each visit (a ++ b) s ≡ each visit b (each visit a s)
  unfolding each
  each_append [] b s = refl
  each_append (n ∷ a) b s = each_append a b (visit n s)

module _ {S : Type 0} (visit : Slot → S → S) (enters : Float → S → Bool) where
  pub entered-yes : (pl : Float) (far : S → S) (s : S) → enters pl s ≡ true → entered visit enters pl far s ≡ far s
  entered-yes pl far s e = ap (λ (c : Bool). cond c (far s) s) e

  pub entered-no : (pl : Float) (far : S → S) (s : S) → enters pl s ≡ false → entered visit enters pl far s ≡ s
  entered-no pl far s e = ap (λ (c : Bool). cond c (far s) s) e

  -- ---- pruning

  -- where the plane is not entered, a look at the slot changes nothing
  abbrev pub Idle : Float → Slot → Type 0
  Idle pl n = (s : S) → enters pl s ≡ false → visit n s ≡ s

  abbrev pub AllIdle : Float → List Slot → Type 0
  AllIdle pl ns = (n : Slot) → Memᴰ n ns → Idle pl n

  -- at each node every slot of the far part is idle
  unfoldable pub FarIdle : Point3f → ℕ → Part → Type 0
  FarIdle q axis empty = Unit {0}
  FarIdle q axis (split n l r) =
      AllIdle (plane q axis n) (laid (far_part q axis n l r)) × FarIdle q (next_axis axis) l × FarIdle q (next_axis axis) r

  each-idle : (pl : Float) (ns : List Slot) → AllIdle pl ns → (s : S) → enters pl s ≡ false → each visit ns s ≡ s
  unfolding each
  each-idle pl [] h s e = refl
  each-idle pl (n ∷ ns) h s e = ap (each visit ns) (h n (Memᴰ.head refl) s e) ∙ each-idle pl ns (λ m k. h m (Memᴰ.tail k)) s e

  -- near part, then far part if it is entered
  joined : (pl : Float) (near far : S → S) (N F : List Slot) → ((s : S) → near s ≡ each visit N s) → ((s : S) → far s ≡ each visit F s) → AllIdle pl F
      → (s : S) → entered visit enters pl far (near s) ≡ each visit (N ++ F) s
  joined pl near far N F hn hf idle s = go (enters pl (near s)) refl
    where
      go : (c : Bool) → enters pl (near s) ≡ c → cond c (far (near s)) (near s) ≡ each visit (N ++ F) s
      go true e = hf (near s) ∙ ap (each visit F) (hn s) ∙ sym (each_append visit N F s)
      go false e = sym (each-idle pl F idle (near s) e) ∙ ap (each visit F) (hn s) ∙ sym (each_append visit N F s)

  -- The pruned walk is a look at every slot in near-first order, where what it leaves out is idle.
  pub pruned : (q : Point3f) (axis : ℕ) (t : Part) → FarIdle q axis t → (s : S) → walk visit enters q axis t s ≡ each visit (order q axis t) s
  unfolding each order FarIdle
  pruned q axis empty h s = walk-empty visit enters q axis s
  pruned q axis (split n l r) h s =
      walk_step visit enters q axis n l r s
      ∙ joined (plane q axis n) (walk visit enters q (next_axis axis) (near_part q axis n l r)) (walk visit enters q (next_axis axis) (far_part q axis n l r))
      (order q (next_axis axis) (near_part q axis n l r)) (order q (next_axis axis) (far_part q axis n l r))
      (either Looks l r (pruned q (next_axis axis) l h.1) (pruned q (next_axis axis) r h.2) (goes_left q axis n))
      (either Looks r l (pruned q (next_axis axis) r h.2) (pruned q (next_axis axis) l h.1) (goes_left q axis n))
      (λ m i. h.0 m (perm-mem (order-perm q (next_axis axis) (far_part q axis n l r)) i))
      (visit n s)
      ∙ sym (ap (λ (u : List Slot). each visit u s) (order-step q axis n l r))
    where
      Looks : Part → Type 0
      Looks t = (u : S) → walk visit enters q (next_axis axis) t u ≡ each visit (order q (next_axis axis) t) u

  -- ---- a search that gives up

  -- what it would not enter it does not enter after a look
  abbrev pub Falling : Type 0
  Falling = (pl : Float) (n : Slot) (s : S) → enters pl (visit n s) ≡ true → enters pl s ≡ true

  module _ (falling : Falling) where
    -- nor after a walk
    pub walk-falls : (pl : Float) (q : Point3f) (axis : ℕ) (t : Part) (s : S) → enters pl (walk visit enters q axis t s) ≡ true → enters pl s ≡ true
    walk-falls pl q axis empty s e = ap (enters pl) (sym (walk-empty visit enters q axis s)) ∙ e
    walk-falls pl q axis (split n l r) s e =
        falling pl n s
        (either Falls l r (λ u. walk-falls pl q (next_axis axis) l u) (λ u. walk-falls pl q (next_axis axis) r u) (goes_left q axis n) (visit n s)
        (before
        (either Falls r l (λ u. walk-falls pl q (next_axis axis) r u) (λ u. walk-falls pl q (next_axis axis) l u) (goes_left q axis n) near)
        (enters (plane q axis n) near)
        (ap (enters pl) (sym (walk_step visit enters q axis n l r s)) ∙ e)))
      where
        Falls : Part → Type 0
        Falls t = (u : S) → enters pl (walk visit enters q (next_axis axis) t u) ≡ true → enters pl u ≡ true

        near : S
        near = walk visit enters q (next_axis axis) (near_part q axis n l r) (visit n s)

        before : {far : S} → (enters pl far ≡ true → enters pl near ≡ true) → (c : Bool) → enters pl (cond c far near) ≡ true → enters pl near ≡ true
        before h true i = h i
        before h false i = i

    pub walk-stays-out : (pl : Float) (q : Point3f) (axis : ℕ) (t : Part) (s : S) → enters pl s ≡ false → enters pl (walk visit enters q axis t s) ≡ false
    walk-stays-out pl q axis t s e = go (enters pl (walk visit enters q axis t s)) refl
      where
        go : (c : Bool) → enters pl (walk visit enters q axis t s) ≡ c → c ≡ false
        go true k = sym (walk-falls pl q axis t s k) ∙ e
        go false k = refl

    -- a far part that is out when its node has been looked at is left out: it need not wait
    pub walk-out : (q : Point3f) (axis : ℕ) (n : Slot) (l r : Part) (s : S) → enters (plane q axis n) (visit n s) ≡ false
        → walk visit enters q axis (split n l r) s ≡ walk visit enters q (next_axis axis) (near_part q axis n l r) (visit n s)
    walk-out q axis n l r s e =
        walk_step visit enters q axis n l r s
        ∙ entered-no (plane q axis n) (walk visit enters q (next_axis axis) (far_part q axis n l r))
        (walk visit enters q (next_axis axis) (near_part q axis n l r) (visit n s))
        (walk-stays-out (plane q axis n) q (next_axis axis) (near_part q axis n l r) (visit n s) e)
