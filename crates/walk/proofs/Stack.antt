-- The waiting far parts: what they owe, their weight and the room that they need; and one law for each turn of a search's loop, whatever the search holds.
-- Assumes nothing.
use mathlib.Core.Path.{◌≡◌, refl, sym, ap, ap₂, ◌∙◌, subst}
use mathlib.Core.Logic.{◌⊎◌, inl, inr}
use mathlib.Core.Bool.{Bool, true, false, not, ◌&&◌, cond}
use mathlib.Core.List.{List, [], ◌∷◌}
use Prim.Native.Nat.{ℕ, suc, ◌+◌, ◌-◌, ◌*◌, ◌/◌, ◌≤◌, ◌<◌}
use native.Mathlib.Nat.{lt_of_le_of_lt}
use native.Mathlib.Numerals.{add-one}
use native.Mathlib.Omega.{arith}
use lib.Dec.{T, eqb, eqb→eq}
use lib.ListN.{length, get_or, set, take, drop, length-set}
use lib.Seq.{slice, slice-cons, slice_empty, get_or-set_same, take-set-lt, drop-set-lt}
use lib.Ieee.{Float, nan, size}
use lib.Ieee.Digits.{size-lt, size-le}
use Rattle.space.specs.declared.Point3f.{Point3f}
use Rattle.space.specs.Distance.{apart, left_is_near, square, distance_squared}
use Rattle.tree.specs.Slots.{Slot, slot, point_at, none, slots}
use Rattle.tree.specs.Part.{Part, split, lent}
use Rattle.tree.specs.Grow.{next_axis}
use Rattle.tree.specs.Levels.{levels}
use Rattle.tree.specs.Walk.{walk}
use Rattle.tree.proofs.Levels.{levels-half, few-levels}
use Rattle.tree.proofs.Slots.{slots_length, slots-get_or}
use Rattle.tree.proofs.Shape.{group, group-step, group-zero, group-all}
use Rattle.tree.proofs.Walk.{entered, entered-yes, entered-no, walk_step, walk-empty, walk-stays-out, Falling}
use Rattle.walk.specs.Node.{left_of, right_of, node_split, node_by, node_of, waits}
use Rattle.walk.specs.declared.Group.{Group}
use Rattle.walk.specs.declared.Waiting.{Waiting}
use Rattle.walk.specs.declared.Node.{Node}

-- the slot at a place of the lent slices
abbrev pub slot_at : List Float → List ℕ → ℕ → Slot
slot_at coords indices i = slot (point_at coords i) (get_or indices i 0)

-- ---- the stack: the places from free on wait, the first of them on top

-- what is read past the end of a stack
abbrev pub unread : Waiting
unread = record { group = record { start = 0; len = 0; axis = 0 }; plane_sq = nan }

abbrev pub top_of : List Waiting → ℕ → Waiting
top_of stack free = get_or stack free unread

pub push : (stack : List Waiting) (places free : ℕ) (w : Waiting) → 0 < free → free ≤ places → places ≤ length stack
    → slice (free - 1) places (set stack (free - 1) w) ≡ w ∷ slice free places stack
push stack places free w pos top long =
    let e : suc (free - 1) ≡ free = omega arith in
    slice-cons (free - 1) places (set stack (free - 1) w) w (omega arith) (omega (arith, length-set stack (free - 1) w))
    ∙ ap (λ (v : Waiting). v ∷ slice (suc (free - 1)) places (set stack (free - 1) w)) (get_or-set_same stack (free - 1) w w (omega arith))
    ∙ ap (λ (l : List Waiting). w ∷ drop (suc (free - 1)) l) (take-set-lt places stack (free - 1) w (omega arith))
    ∙ ap (λ (l : List Waiting). w ∷ l) (drop-set-lt (suc (free - 1)) (take places stack) (free - 1) w (omega arith))
    ∙ ap (λ (k : ℕ). w ∷ slice k places stack) e

pub pop : (stack : List Waiting) (places free : ℕ) → free < places → places ≤ length stack
    → slice free places stack ≡ top_of stack free ∷ slice (free + 1) places stack
pop stack places free h long =
    slice-cons free places stack unread h long ∙ ap (λ (k : ℕ). top_of stack free ∷ slice k places stack) (sym (add-one free))

-- taking one off costs a turn, and each slot two
abbrev pub weight : List Waiting → ℕ
weight [] = 0
weight (w ∷ ws) = 1 + 2 * w.group.len + weight ws

-- each lies among the m slots, and has no more levels than places are free once it is taken off
abbrev pub Room : ℕ → ℕ → List Waiting → Type 0
Room m free [] = Unit
Room m free (w ∷ ws) = (levels w.group.len ≤ suc free) × (w.group.start + w.group.len ≤ m) × Room m (suc free) ws

module _ {S : Type 0} (visit : Slot → S → S) (enters : Float → S → Bool) (q : Point3f) (ss : List Slot) where
  -- the walk over a group
  abbrev pub over : Group → S → S
  over g s = walk visit enters q g.axis (group ss g.start g.len) s

  -- each waiting part is judged when it is taken off
  unfoldable pub drain : List Waiting → S → S
  drain [] s = s
  drain (w ∷ ws) s = drain ws (entered visit enters w.plane_sq (over w.group) s)

-- ---- a loop's invariant: m slots ss, what is to be given, the stack with its places of which some are free, the group at hand and what is held
pub record Going {S : Type 0} (visit : Slot → S → S) (enters : Float → S → Bool) (q : Point3f) (ss : List Slot) (goal : S) (stack : List Waiting) (places free : ℕ) (g : Group) (held : S) : Type 0 where
  pub long : length stack ≡ 32
  pub few : places ≤ 32
  pub top : free ≤ places
  pub here : levels g.len ≤ free
  pub within : g.start + g.len ≤ length ss
  pub room : Room (length ss) free (slice free places stack)
  pub left : drain visit enters q ss (slice free places stack) (over visit enters q ss g held) ≡ goal

-- ---- the parts of a group

pub record Split (g : Group) (n : Node) : Type 0 where
  pub all : suc (n.near.len + n.far.group.len) ≡ g.len
  pub near-half : n.near.len ≤ g.len / 2
  pub far-half : n.far.group.len ≤ g.len / 2
  pub near-in : n.near.start + n.near.len ≤ g.start + g.len
  pub far-in : n.far.group.start + n.far.group.len ≤ g.start + g.len

split_by : (g : Group) (c : Bool) (pl d : Float) → 0 < g.len → Split g (node_split g c pl d)
split_by g true pl d pos = record { all = omega arith; near-half = omega arith; far-half = omega arith; near-in = omega arith; far-in = omega arith }
split_by g false pl d pos = record { all = omega arith; near-half = omega arith; far-half = omega arith; near-in = omega arith; far-in = omega arith }

pub node-split : (g : Group) (a d : Float) → 0 < g.len → Split g (node_by g a d)
node-split g a d pos = split_by g (left_is_near a) (square a) d pos

levels-below : (n l : ℕ) → 0 < l → n ≤ l / 2 → suc (levels n) ≤ levels l
unfolding levels
levels-below n l pos h =
    let a : size n ≤ size (l / 2) = size-le n (size (l / 2)) (lt_of_le_of_lt h (size-lt (l / 2))) in
    let b : suc (size (l / 2)) ≤ size l = levels-half l pos in
    omega arith

-- ---- the walk over a group that is not empty

module _ {S : Type 0} (visit : Slot → S → S) (enters : Float → S → Bool) (q : Point3f) where
  over-empty : (ss : List Slot) (g : Group) (s : S) → g.len ≡ 0 → over visit enters q ss g s ≡ s
  over-empty ss g s e = ap (λ (k : ℕ). walk visit enters q g.axis (group ss g.start k) s) e ∙ ap (λ (t : Part). walk visit enters q g.axis t s) (group-zero ss g.start) ∙ walk-empty visit enters q g.axis s

  module _ (coords : List Float) (indices : List ℕ) (g : Group) (s : S) (pos : 0 < g.len) (within : g.start + g.len ≤ length (slots coords indices)) where
    root : group (slots coords indices) g.start g.len
        ≡ split (slot_at coords indices g.start) (group (slots coords indices) (left_of g).start (left_of g).len) (group (slots coords indices) (right_of g).start (right_of g).len)
    root =
        group-step (slots coords indices) g.start g.len none pos within
        ∙ ap (λ (n : Slot). split n (group (slots coords indices) (left_of g).start (left_of g).len) (group (slots coords indices) (right_of g).start (right_of g).len))
        (slots-get_or coords indices g.start (omega (arith, slots_length coords indices)))

    -- the node, the near part, the far part if it is entered then
    pub over-step : over visit enters q (slots coords indices) g s
        ≡ entered visit enters (node_of coords q g).far.plane_sq (over visit enters q (slots coords indices) (node_of coords q g).far.group)
        (over visit enters q (slots coords indices) (node_of coords q g).near (visit (slot_at coords indices g.start) s))
    over-step =
        ap (λ (t : Part). walk visit enters q g.axis t s) root
        ∙ walk_step visit enters q g.axis (slot_at coords indices g.start) (group (slots coords indices) (left_of g).start (left_of g).len) (group (slots coords indices) (right_of g).start (right_of g).len) s
        ∙ go (left_is_near (apart g.axis q (point_at coords g.start)))
      where
        go : (c : Bool) → entered visit enters (node_of coords q g).far.plane_sq
            (walk visit enters q (next_axis g.axis) (cond c (group (slots coords indices) (right_of g).start (right_of g).len) (group (slots coords indices) (left_of g).start (left_of g).len)))
            (walk visit enters q (next_axis g.axis) (cond c (group (slots coords indices) (left_of g).start (left_of g).len) (group (slots coords indices) (right_of g).start (right_of g).len)) (visit (slot_at coords indices g.start) s))
            ≡ entered visit enters (node_of coords q g).far.plane_sq (over visit enters q (slots coords indices) (cond c (right_of g) (left_of g)))
            (over visit enters q (slots coords indices) (cond c (left_of g) (right_of g)) (visit (slot_at coords indices g.start) s))
        go true = refl
        go false = refl

-- ---- a turn of the loop

-- what the loop has still to do falls with each turn
abbrev pub load : Group → List Waiting → ℕ
load g ws = 2 * g.len + weight ws

module _ {S : Type 0} {visit : Slot → S → S} {enters : Float → S → Bool} {q : Point3f} {ss : List Slot} {goal : S} {stack : List Waiting} {places free : ℕ} {g : Group} {held : S}
    (going : Going visit enters q ss goal stack places free g held)
  where
    -- a group at hand has a level, so a place is free
    pub place : 0 < g.len → (0 < free) × (free ≤ 32)
    place pos =
        let a = going.few in
        let b = going.top in
        let c = going.here in
        let e : suc (levels 0) ≤ levels g.len = levels-below 0 g.len pos (omega arith) in
        (omega arith, omega arith)

    -- nothing at hand and nothing waits
    pub finish : g.len ≡ 0 → free ≡ places → held ≡ goal
    unfolding drain
    finish none_here all-free =
        sym (over-empty visit enters q ss g held none_here)
        ∙ ap (λ (ws : List Waiting). drain visit enters q ss ws (over visit enters q ss g held)) (sym (ap (λ (k : ℕ). slice k places stack) all-free ∙ slice_empty places stack))
        ∙ going.left

    module _ (none_here : g.len ≡ 0) (more : free < places) where
      pub top-off : slice free places stack ≡ top_of stack free ∷ slice (free + 1) places stack
      top-off = let a = going.few in let b = going.long in pop stack places free more (omega arith)

      -- the one on top is judged
      judged : drain visit enters q ss (slice (free + 1) places stack)
          (entered visit enters (top_of stack free).plane_sq (over visit enters q ss (top_of stack free).group) held) ≡ goal
      unfolding drain
      judged =
          ap (drain visit enters q ss (top_of stack free ∷ slice (free + 1) places stack)) (sym (over-empty visit enters q ss g held none_here))
          ∙ ap (λ (ws : List Waiting). drain visit enters q ss ws (over visit enters q ss g held)) (sym top-off)
          ∙ going.left

      opened : Room (length ss) free (top_of stack free ∷ slice (free + 1) places stack)
      opened = subst (Room (length ss) free) top-off going.room

      rest : Room (length ss) (free + 1) (slice (free + 1) places stack)
      rest = subst (λ (k : ℕ). Room (length ss) k (slice (free + 1) places stack)) (sym (add-one free)) opened.2

      -- it is taken off and entered
      pub taken : enters (top_of stack free).plane_sq held ≡ true → Going visit enters q ss goal stack places (free + 1) (top_of stack free).group held
      taken yes-enters =
          let a = opened.0 in
          record {
            long = going.long;
            few = going.few;
            top = omega arith;
            here = omega arith;
            within = opened.1;
            room = rest;
            left =
                ap (drain visit enters q ss (slice (free + 1) places stack))
                (sym (entered-yes visit enters (top_of stack free).plane_sq (over visit enters q ss (top_of stack free).group) held yes-enters))
                ∙ judged;
          }

      -- it is taken off and not entered
      pub left_out : enters (top_of stack free).plane_sq held ≡ false → Going visit enters q ss goal stack places (free + 1) g held
      left_out no-enters =
          let a = going.here in
          record {
            long = going.long;
            few = going.few;
            top = omega arith;
            here = omega arith;
            within = going.within;
            room = rest;
            left =
                ap (drain visit enters q ss (slice (free + 1) places stack))
                (over-empty visit enters q ss g held none_here
                ∙ sym (entered-no visit enters (top_of stack free).plane_sq (over visit enters q ss (top_of stack free).group) held no-enters))
                ∙ judged;
          }

      pub taken-less : load (top_of stack free).group (slice (free + 1) places stack) < load g (slice free places stack)
      taken-less = rw top-off (omega arith)

      pub left-out-less : load g (slice (free + 1) places stack) < load g (slice free places stack)
      left-out-less = rw top-off (omega arith)

-- a far part that does not wait is empty, or would not be entered
far-idle : (l : ℕ) (e : Bool) → (not (eqb l 0) && e) ≡ false → (l ≡ 0) ⊎ (e ≡ false)
far-idle l e h = go (eqb l 0) (eqb→eq l 0) h
  where
    go : (c : Bool) → (T c → l ≡ 0) → (not c && e) ≡ false → (l ≡ 0) ⊎ (e ≡ false)
    go true f k = inl (f tt)
    go false f k = inr k

pub entered-idle : {S : Type 0} (visit : Slot → S → S) (enters : Float → S → Bool) (pl : Float) (far : S → S) (s : S) → far s ≡ s → entered visit enters pl far s ≡ s
entered-idle visit enters pl far s e = go (enters pl s)
  where
    go : (c : Bool) → cond c (far s) s ≡ s
    go true = e
    go false = refl

-- n is what is seen at the group's root, and next what is held after it
module _ (coords : List Float) (indices : List ℕ) {S : Type 0} {visit : Slot → S → S} {enters : Float → S → Bool} {q : Point3f} {goal : S} {stack : List Waiting} {places free : ℕ} {g : Group} {held : S}
    (going : Going visit enters q (slots coords indices) goal stack places free g held) (pos : 0 < g.len) (n : Node) (is-node : n ≡ node_of coords q g)
  where
    pub parts : Split g n
    parts = rw is-node (node-split g (apart g.axis q (point_at coords g.start)) (distance_squared q (point_at coords g.start)) pos)

    pub pushed : slice (free - 1) places (set stack (free - 1) n.far) ≡ n.far ∷ slice free places stack
    pushed = let a = going.few in let b = going.long in let c = going.top in let p = place going pos in push stack places free n.far p.0 c (omega arith)

    pub kept_less : load n.near (slice (free - 1) places (set stack (free - 1) n.far)) < load g (slice free places stack)
    kept_less = let a = parts.all in rw pushed (omega arith)

    pub dropped-less : load n.near (slice free places stack) < load g (slice free places stack)
    dropped-less = let a = parts.all in omega arith

    module _ (next : S) (is-next : next ≡ visit (slot_at coords indices g.start) held) where
      step : over visit enters q (slots coords indices) g held
          ≡ entered visit enters n.far.plane_sq (over visit enters q (slots coords indices) n.far.group) (over visit enters q (slots coords indices) n.near next)
      step = rw (is-node, is-next) (over-step visit enters q coords indices g held pos going.within)

      -- the node is looked at, its near part is at hand, its far part waits
      pub kept : Going visit enters q (slots coords indices) goal (set stack (free - 1) n.far) places (free - 1) n.near next
      unfolding drain
      kept =
          let a = going.here in
          let b = going.top in
          let w = going.within in
          let p = place going pos in
          let i = parts.near-in in
          let j = parts.far-in in
          let k = levels-below n.near.len g.len pos parts.near-half in
          let f = levels-below n.far.group.len g.len pos parts.far-half in
          let e : free ≡ suc (free - 1) = omega arith in
          record {
            long = length-set stack (free - 1) n.far ∙ going.long;
            few = going.few;
            top = omega arith;
            here = omega arith;
            within = omega arith;
            room =
                subst (Room (length (slots coords indices)) (free - 1)) (sym pushed)
                (omega arith, omega arith, subst (λ (k : ℕ). Room (length (slots coords indices)) k (slice free places stack)) e going.room);
            left =
                ap (λ (ws : List Waiting). drain visit enters q (slots coords indices) ws (over visit enters q (slots coords indices) n.near next)) pushed
                ∙ ap (drain visit enters q (slots coords indices) (slice free places stack)) (sym step)
                ∙ going.left;
          }

      -- its far part does not wait, and is not missed
      pub dropped : Falling visit enters → waits n.far (enters n.far.plane_sq next) ≡ false → Going visit enters q (slots coords indices) goal stack places free n.near next
      dropped falling out =
          let a = going.here in
          let w = going.within in
          let i = parts.near-in in
          let k = levels-below n.near.len g.len pos parts.near-half in
          record {
            long = going.long;
            few = going.few;
            top = going.top;
            here = omega arith;
            within = omega arith;
            room = going.room;
            left = ap (drain visit enters q (slots coords indices) (slice free places stack)) (sym (step ∙ missed)) ∙ going.left;
          }
        where
          missed : entered visit enters n.far.plane_sq (over visit enters q (slots coords indices) n.far.group) (over visit enters q (slots coords indices) n.near next)
              ≡ over visit enters q (slots coords indices) n.near next
          missed = elim (far-idle n.far.group.len (enters n.far.plane_sq next) out) [
            | inl e ↦
                entered-idle visit enters n.far.plane_sq (over visit enters q (slots coords indices) n.far.group) (over visit enters q (slots coords indices) n.near next)
                (over-empty visit enters q (slots coords indices) n.far.group (over visit enters q (slots coords indices) n.near next) e)
            | inr e ↦
                entered-no visit enters n.far.plane_sq (over visit enters q (slots coords indices) n.far.group) (over visit enters q (slots coords indices) n.near next)
                (walk-stays-out visit enters falling n.far.plane_sq q n.near.axis (group (slots coords indices) n.near.start n.near.len) next e)
          ]

-- where the loop begins: the whole is at hand and nothing waits
pub begun : {S : Type 0} (visit : Slot → S → S) (enters : Float → S → Bool) (q : Point3f) (coords : List Float) (indices : List ℕ) (stack : List Waiting) (places : ℕ) (g : Group) (held : S)
    → length stack ≡ 32 → length indices ≤ 1048576 → places ≡ levels (length indices) → g.start ≡ 0 → g.len ≡ length indices → g.axis ≡ 0
    → Going visit enters q (slots coords indices) (walk visit enters q 0 (lent coords indices) held) stack places places g held
unfolding drain lent
begun visit enters q coords indices stack places g held long few all at-start whole on-x =
    let f = few-levels (length indices) few in
    let e = ap levels whole in
    let none-wait : slice places places stack ≡ [] = slice_empty places stack in
    record {
      long = long;
      few = omega arith;
      top = omega arith;
      here = omega arith;
      within = omega (arith, slots_length coords indices);
      room = rw none-wait tt;
      left =
          ap (λ (ws : List Waiting). drain visit enters q (slots coords indices) ws (over visit enters q (slots coords indices) g held)) none-wait
          ∙ ap (λ (a : ℕ). walk visit enters q a (group (slots coords indices) g.start g.len) held) on-x
          ∙ ap (λ (t : Part). walk visit enters q 0 t held)
          (ap₂ (group (slots coords indices)) at-start whole ∙ group-all (slots coords indices) (length indices) (slots_length coords indices));
    }
