-- k nearest as a pruned walk: a slot that is looked at is an entry that is offered, and what is judged is the k-th distance. Assumes nothing.
use mathlib.Core.Path.{◌≡◌, refl, sym, ap, ◌∙◌, subst}
use mathlib.Core.List.{List, []}
use Prim.Native.Nat.{ℕ, ◌+◌, ◌≤◌, ◌<◌}
use native.Mathlib.Omega.{arith}
use lib.ListN.{length, get_or, take, drop, length-map, length-append, length-drop}
use lib.Seq.{take_at, drop_at}
use lib.Ieee.{Float, lt}
use base.Fml.{GName}
use Rattle.space.specs.declared.Point3f.{Point3f}
use Rattle.space.specs.Distance.{distance_squared}
use Rattle.tree.specs.Slots.{Slot}
use Rattle.tree.specs.Refuse.{overwrite}
use Rattle.lists.specs.Entry.{Entry, indices_in, squares_in}
use Rattle.lists.specs.KNearest.{below_kth}
use Rattle.lists.specs.Shift.{limit_of, Offered}
use Rattle.lists.specs.Entries.{Held}
use Rattle.lists.specs.Lists.{Lists, Fronted}
use Rattle.lists.specs.Nearest.{first_of, see, judge, Asked, rule, Holds}
use Rattle.lists.specs.declared.NearestHeld.{NearestHeld}
use Rattle.lists.proofs.Offering.{Front, front-end, limit_is, Taken, offered}
use Rattle.lists.proofs.Seen.{see-held, first-none, seen-falling, held-sorted, held-good, held-few}
use Rattle.lists.proofs.Rule.{held-as, held_none, squares-none}
use Rattle.walk.specs.Pruned.{Met, Begins}

-- what is written over the front stands there
front_over : {A : Type 0} (new old l : List A) → l ≡ overwrite new old → length new ≤ length old → Front new old l
front_over {A} new old l e h =
    record {
      front = ap (take (length new)) e ∙ take_at new (drop (length new) old) (length new) refl;
      back = ap (drop (length new)) e ∙ drop_at new (drop (length new) old) (length new) refl;
      long = ap length e ∙ length-append new (drop (length new) old) ∙ both;
    }
  where
    both : length new + length (drop (length new) old) ≡ length old
    both = omega (arith, length-drop (length new) old)

taken_of : (es : List Entry) (is : List ℕ) (ds : List Float) (n : ℕ) (is' : List ℕ) (ds' : List Float) → Held es squares_in is ds n is' ds' → length es ≤ length is → length es ≤ length ds → Taken es is ds n is' ds'
unfolding indices_in squares_in
taken_of es is ds n is' ds' h a b =
    record {
      count = h.count;
      indices = front_over (indices_in es) is is' h.indices (omega (arith, length-map es (λ x. x.index)));
      distances = front_over (squares_in es) ds ds' h.distances (omega (arith, length-map es (λ x. x.distance)));
    }

held-by : (es : List Entry) (is : List ℕ) (ds : List Float) (n : ℕ) (is' : List ℕ) (ds' : List Float) → Taken es is ds n is' ds' → Held es squares_in is ds n is' ds'
held-by es is ds n is' ds' t = record { count = t.count; indices = front-end (indices_in es) is is' t.indices; distances = front-end (squares_in es) ds ds' t.distances }

-- ---- the lent lists while a search fills them

module _ {lists : Lists} {most : ℕ} {es : List Entry} {n : ℕ} {is-name : GName} {is : List ℕ} {ds-name : GName} {ds : List Float} (h : Fronted lists most es n is-name is ds-name ds) where
  pub front-taken : length es ≤ most → Taken es lists.is lists.ds n is ds
  front-taken few =
      let a = h.room-is in
      let b = h.room-ds in
      taken_of es lists.is lists.ds n is ds h.held (omega arith) (omega arith)

  -- a step later
  pub front-next : {es' : List Entry} {n' : ℕ} {is-name' : GName} {is' : List ℕ} {ds-name' : GName} {ds' : List Float} → is-name' ≡ is-name → ds-name' ≡ ds-name
      → Taken es' lists.is lists.ds n' is' ds' → Fronted lists most es' n' is-name' is' ds-name' ds'
  front-next {es'} {n'} {is-name'} {is'} {ds-name'} {ds'} a b t =
      record { room-is = h.room-is; room-ds = h.room-ds; same-is = a ∙ h.same-is; same-ds = b ∙ h.same-ds; held = held-by es' lists.is lists.ds n' is' ds' t }

  -- when the search is let go each list is what its reference held last
  pub front-ends : (es' : List Entry) (is' : List ℕ) (ds' : List Float) → es ≡ es' → (lists.is-name ≡ is-name → is' ≡ is) → (lists.ds-name ≡ ds-name → ds' ≡ ds)
      → Held es' squares_in lists.is lists.ds n is' ds'
  front-ends es' is' ds' e f g = rw (← e, f (sym h.same-is), g (sym h.same-ds)) h.held

-- where it begins: nothing is held
pub front-none : {es : List Entry} {most : ℕ} {is : List ℕ} {ds : List Float} {n : ℕ} {is-name : GName} {is' : List ℕ} {ds-name : GName} {ds' : List Float}
    → es ≡ [] → n ≡ 0 → is' ≡ is → ds' ≡ ds → (most ≤ length is) × (most ≤ length ds)
    → Fronted (record { is = is; ds = ds; is-name = is-name; ds-name = ds-name }) most es n is-name is' ds-name ds'
front-none {es} {most} {is} {ds} none b d e room =
    record { room-is = room.0; room-ds = room.1; same-is = refl; same-ds = refl; held = rw (b, d, e) (held-as none (held_none squares_in is ds squares-none)) }

-- ---- k nearest

module _ {asked : Asked} {search : NearestHeld} {seen : List Slot} (h : Holds asked search seen) where
  abbrev es : List Entry
  es = first_of asked.k asked.query seen

  taken : Taken es asked.lists.is asked.lists.ds search.count search.out_indices.now search.out_distances.now
  taken = front-taken h.front (held-few asked.k asked.query seen)

  pub holds-some : 0 < search.k
  holds-some = omega (arith, h.some, h.most)

  pub holds-few : search.count ≤ search.k
  holds-few = omega (arith, h.front.held.count, held-few asked.k asked.query seen, h.most)

  pub holds-is : search.k ≤ length search.out_indices.now
  holds-is = omega (arith, h.most, h.front.room-is, taken.indices.long)

  pub holds-ds : search.k ≤ length search.out_distances.now
  holds-ds = omega (arith, h.most, h.front.room-ds, taken.distances.long)

  -- the k-th distance as the code reads it
  pub judges : (pl : Float) → lt pl search.limit ≡ judge asked.k asked.query pl seen
  unfolding judge below_kth squares_in
  judges pl =
      ap (lt pl) (h.limit
      ∙ ap (λ (j : ℕ). limit_of j search.count search.out_distances.now) h.most
      ∙ ap (λ (j : ℕ). limit_of asked.k j search.out_distances.now) h.front.held.count
      ∙ limit_is asked.k es (record { index = 0; distance = search.limit }) h.some (held-few asked.k asked.query seen) (held-sorted asked.k asked.query seen) (held-good asked.k asked.query seen) search.out_distances.now
      (ap (λ (j : ℕ). take j search.out_distances.now) (sym (length-map es (λ x. x.distance))) ∙ taken.distances.front))

  abbrev On : NearestHeld → ℕ → Float → ℕ → ℕ → Type 0
  On search' i x k c = Offered i x k c search.out_indices.now search.out_distances.now search'.count search'.out_indices.now search'.out_distances.now

  -- one slot is looked at
  pub visits : (n : Slot) (at : ℕ) (d : Float) → Met (rule asked) at d n → (search' : NearestHeld)
      → search'.indices.now ≡ search.indices.now → search'.k ≡ search.k → search'.out_indices.ghost_name ≡ search.out_indices.ghost_name → search'.out_distances.ghost_name ≡ search.out_distances.ghost_name
      → search'.limit ≡ limit_of search'.k search'.count search'.out_distances.now
      → On search' (get_or search.indices.now at 0) d search.k search.count
      → Holds asked search' (see n seen)
  visits n at d met search' a b e f limit step =
      let old = taken in
      let g = h.front in
      record {
        indices = a ∙ h.indices;
        most = b ∙ h.most;
        some = h.some;
        limit = limit;
        front =
            rw (see-held asked.k asked.query n seen)
            (front-next g e f
            (offered asked.k asked.query n es h.some (held-few asked.k asked.query seen) (held-sorted asked.k asked.query seen) (held-good asked.k asked.query seen)
            asked.lists.is search.out_indices.now asked.lists.ds search.out_distances.now g.room-is g.room-ds old.indices old.distances search'.count search'.out_indices.now search'.out_distances.now
            (subst (λ (j : ℕ). On search' n.index (distance_squared asked.query n.point) j (length es)) h.most
            (subst (λ (j : ℕ). On search' n.index (distance_squared asked.query n.point) search.k j) g.held.count
            (subst (λ (x : Float). On search' n.index x search.k search.count) met.distance
            (subst (λ (j : ℕ). On search' j d search.k search.count) (ap (λ (l : List ℕ). get_or l at 0) h.indices ∙ sym met.index) step))))));
      }

-- where it begins
pub begins : (indices : List ℕ) (q : Point3f) (k : ℕ) (is : List ℕ) (ds : List Float) (search : NearestHeld)
    → search.indices.now ≡ indices → search.k ≡ k → search.count ≡ 0 → search.limit ≡ limit_of search.k search.count search.out_distances.now → search.out_indices.now ≡ is → search.out_distances.now ≡ ds
    → (0 < k) × (k ≤ length is) × (k ≤ length ds)
    → Begins rule (λ a room s seen. Holds a s seen) (length indices) q search
    (record { indices = indices; query = q; k = k; lists = record { is = is; ds = ds; is-name = search.out_indices.ghost_name; ds-name = search.out_distances.ghost_name } }) []
begins indices q k is ds search a b c l d e room =
    record {
      from = refl;
      over = refl;
      falling = seen-falling k q;
      holds = record { indices = a; most = b; some = room.0; limit = l; front = front-none (first-none k q) c d e (room.1, room.2) };
    }
