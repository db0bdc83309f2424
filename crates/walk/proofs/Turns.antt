-- The pruned walk of any search: the kit's laws beside what the search holds and how many slots it has room for. Assumes nothing.
use mathlib.Core.Path.{◌≡◌, refl, sym, ap, ◌∙◌, subst}
use mathlib.Core.Bool.{true, false}
use mathlib.Core.List.{List, [], ◌∷◌}
use Prim.Native.Nat.{ℕ, suc, ◌+◌, ◌-◌, ◌≤◌, ◌<◌}
use native.Mathlib.Omega.{arith}
use lib.ListN.{length, set}
use lib.Seq.{slice, slice_empty}
use lib.Ieee.{Float}
use Rattle.space.specs.declared.Point3f.{Point3f}
use Rattle.space.specs.Distance.{distance_squared}
use Rattle.tree.specs.Slots.{Slot, slots}
use Rattle.tree.specs.Levels.{levels}
use Rattle.tree.proofs.Slots.{slots_length}
use Rattle.tree.proofs.Walk.{Falling}
use Rattle.walk.specs.Node.{node_of, waits}
use Rattle.walk.specs.Pruned.{Rule, Met, Begins, walked}
use Rattle.walk.specs.declared.Group.{Group}
use Rattle.walk.specs.declared.Waiting.{Waiting}
use Rattle.walk.specs.declared.Node.{Node}
use Rattle.walk.proofs.Stack.{slot_at, top_of, parts, pushed, top-off, Going, finish, taken, left_out, kept, dropped, begun}

-- how many slots wait
abbrev pub waiting : List Waiting → ℕ
waiting [] = 0
waiting (w ∷ ws) = w.group.len + waiting ws

pub record Turns {Self Asked State : Type 0} (rule : Asked → Rule State) (Holds : Asked → ℕ → Self → State → Type 0)
    (coords : List Float) (q : Point3f) (asked : Asked) (goal : State) (stack : List Waiting) (places free : ℕ) (g : Group) (search : Self) : Type 0 where
  pub room : ℕ
  pub held : State
  pub going : Going (rule asked).visit (rule asked).enters q (slots coords (rule asked).indices) goal stack places free g held
  pub enough : g.len + waiting (slice free places stack) ≤ room
  pub holds : Holds asked room search held

module _ {Self Asked State : Type 0} {rule : Asked → Rule State} {Holds : Asked → ℕ → Self → State → Type 0}
    {coords : List Float} {q : Point3f} {asked : Asked}
  where
    pub turns-begun : {m : ℕ} {search : Self} {held : State} (b : Begins rule Holds m q search asked held) (stack : List Waiting) (places : ℕ) (g : Group)
        → length stack ≡ 32 → m ≤ 1048576 → places ≡ levels m → g.start ≡ 0 → g.len ≡ m → g.axis ≡ 0
        → Turns rule Holds coords q asked (walked (rule asked) coords held) stack places places g search
    turns-begun {m} {search} {held} b stack places g long few all at-start whole on-x =
        let n = b.over in
        record {
          room = m;
          held = held;
          going = rw b.from (begun (rule asked).visit (rule asked).enters q coords (rule asked).indices stack places g held long (omega arith) (all ∙ ap levels (sym n)) at-start (whole ∙ sym n) on-x);
          enough = rw (slice_empty places stack) (omega arith);
          holds = b.holds;
        }

    module _ {goal : State} {stack : List Waiting} {places free : ℕ} {g : Group} {search : Self} (t : Turns rule Holds coords q asked goal stack places free g search) where
      pub turns-finish : g.len ≡ 0 → free ≡ places → (room : ℕ) × Holds asked room search goal
      turns-finish a b = (t.room, subst (Holds asked t.room search) (finish t.going a b) t.holds)

      -- what is judged
      pub judged : (asked : Asked) × (room : ℕ) × (held : State) × Holds asked room search held
      judged = (asked, t.room, t.held, t.holds)

      pub turns-taken : g.len ≡ 0 → free < places → (rule asked).enters (top_of stack free).plane_sq t.held ≡ true
          → Turns rule Holds coords q asked goal stack places (free + 1) (top_of stack free).group search
      turns-taken a b in-it =
          let e : waiting (slice free places stack) ≡ (top_of stack free).group.len + waiting (slice (free + 1) places stack) = ap waiting (top-off t.going a b) in
          let h = t.enough in
          record { room = t.room; held = t.held; going = taken t.going a b in-it; enough = omega arith; holds = t.holds }

      pub turns-left-out : g.len ≡ 0 → free < places → (rule asked).enters (top_of stack free).plane_sq t.held ≡ false
          → Turns rule Holds coords q asked goal stack places (free + 1) g search
      turns-left-out a b out =
          let e : waiting (slice free places stack) ≡ (top_of stack free).group.len + waiting (slice (free + 1) places stack) = ap waiting (top-off t.going a b) in
          let h = t.enough in
          record { room = t.room; held = t.held; going = left_out t.going a b out; enough = omega arith; holds = t.holds }

      module _ (some : 0 < g.len) where
        abbrev at : Slot
        at = slot_at coords (rule asked).indices g.start

        abbrev next : State
        next = (rule asked).visit at t.held

        one-more : suc (t.room - 1) ≡ t.room
        one-more = let h = t.enough in omega arith

        roomy : Holds asked (suc (t.room - 1)) search t.held
        roomy = subst (λ (n : ℕ). Holds asked n search t.held) (sym one-more) t.holds

        pub here : g.start < length (rule asked).indices
        here = let w = t.going.within in omega (arith, slots_length coords (rule asked).indices)

        -- what is looked at
        pub looked : (asked : Asked) × (room : ℕ) × (held : State) × (g.start < length (rule asked).indices) × Holds asked (suc room) search held
        looked = (asked, t.room - 1, t.held, here, roomy)

        module _ (from : (rule asked).query ≡ q) (n : Node) (is-node : n ≡ node_of coords q g) (search' : Self)
            (visited : (a : Asked) (room : ℕ) (held : State) (s : Slot) → Met (rule a) g.start n.distance_sq s → Holds a (suc room) search held → Holds a room search' ((rule a).visit s held))
          where
            pub now-holds : Holds asked (t.room - 1) search' next
            now-holds =
                visited asked (t.room - 1) t.held at
                (record { within = here; index = refl; distance = ap (λ (v : Node). v.distance_sq) is-node ∙ ap (λ (p : Point3f). distance_squared p at.point) (sym from) })
                roomy

            pub turns-kept : Turns rule Holds coords q asked goal (set stack (free - 1) n.far) places (free - 1) n.near search'
            turns-kept =
                let p = (parts coords (rule asked).indices t.going some n is-node).all in
                let e : waiting (slice (free - 1) places (set stack (free - 1) n.far)) ≡ n.far.group.len + waiting (slice free places stack) = ap waiting (pushed coords (rule asked).indices t.going some n is-node) in
                let h = t.enough in
                record { room = t.room - 1; held = next; going = kept coords (rule asked).indices t.going some n is-node next refl; enough = omega arith; holds = now-holds }

            pub turns-dropped : Falling (rule asked).visit (rule asked).enters → waits n.far ((rule asked).enters n.far.plane_sq next) ≡ false → Turns rule Holds coords q asked goal stack places free n.near search'
            turns-dropped falling out =
                let p = (parts coords (rule asked).indices t.going some n is-node).all in
                let h = t.enough in
                record { room = t.room - 1; held = next; going = dropped coords (rule asked).indices t.going some n is-node next refl falling out; enough = omega arith; holds = now-holds }
