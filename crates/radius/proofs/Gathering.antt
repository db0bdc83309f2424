-- Radius search as a pruned walk: a slot that is looked at is an entry that is kept or not. No more is gathered than there are slots. Assumes nothing.
use mathlib.Core.Path.{◌≡◌, refl, sym, ap, ◌∙◌, subst}
use mathlib.Core.Bool.{Bool, true, false, cond}
use mathlib.Core.List.{List, [], ◌∷◌, ◌++◌, map, map-append}
use Prim.Native.Nat.{ℕ, suc, ◌+◌, ◌≤◌, ◌<◌}
use native.Mathlib.Numerals.{add-one}
use native.Mathlib.Omega.{arith}
use lib.ListN.{length, get_or, set, take, drop, length-append, length-map, length-set}
use lib.Seq.{take-suc-set, drop-set-lt, drop-drop}
use lib.Ieee.{Float, le}
use Rattle.space.specs.declared.Point3f.{Point3f}
use Rattle.space.specs.Distance.{distance_squared, square}
use Rattle.tree.specs.Slots.{Slot}
use Rattle.tree.specs.Part.{Part, empty, split, laid}
use Rattle.tree.specs.Grow.{next_axis}
use Rattle.tree.proofs.Walk.{Falling, goes_left, plane}
use Rattle.walk.specs.Pruned.{Met, Begins}
use Rattle.lists.specs.Entry.{Entry, entry, indices_in, squares_in}
use Rattle.lists.specs.Radius.{within, gather, plane_within}
use Rattle.lists.proofs.Offering.{Front, Taken}
use Rattle.lists.proofs.Walking.{front-taken, front-next, front-none}
use Rattle.radius.specs.Near.{counting, numbered, gathered}
use Rattle.radius.specs.Reach.{Asked, rule, Holds}
use Rattle.radius.specs.declared.WithinReach.{WithinReach}
use Rattle.radius.specs.Gather.{Kept}
use Rattle.radius.proofs.Found.{found, parts, one, walk-found}
use Rattle.radius.proofs.Rename.{counting-length, counting-get_or, numbered-length}

-- ---- one entry more at the end of what is held

module _ {A : Type 0} (new old l : List A) (x : A) (f : Front new old l) (room : length new < length old) where
  size : length (new ++ (x ∷ [])) ≡ suc (length new)
  size = length-append new (x ∷ []) ∙ two (length new)
    where
      two : (n : ℕ) → n + 1 ≡ suc n
      two n = omega arith

  fits_in : length new < length l
  fits_in = omega (arith, f.long)

  pub front-more : Front (new ++ (x ∷ [])) old (set l (length new) x)
  front-more =
      record {
        front =
            ap (λ (n : ℕ). take n (set l (length new) x)) size
            ∙ take-suc-set l (length new) x fits_in
            ∙ ap (λ (u : List A). u ++ (x ∷ [])) f.front;
        back =
            ap (λ (n : ℕ). drop n (set l (length new) x)) size
            ∙ drop-set-lt (suc (length new)) l (length new) x (omega arith)
            ∙ past l
            ∙ ap (drop 1) f.back
            ∙ sym (past old)
            ∙ ap (λ (n : ℕ). drop n old) (sym size);
        long = length-set l (length new) x ∙ f.long;
      }
    where
      past : (u : List A) → drop (suc (length new)) u ≡ drop 1 (drop (length new) u)
      past u = ap (λ (n : ℕ). drop n u) (sym (add-one (length new))) ∙ sym (drop-drop 1 (length new) u)

pub front-grown : {A : Type 0} (f : Entry → A) (es : List Entry) (e : Entry) (old l : List A) (n : ℕ) (x : A) → Front (map f es) old l → length es < length old → n ≡ length es → x ≡ f e
    → Front (map f (es ++ (e ∷ []))) old (set l n x)
front-grown {A} f es e old l n x h room c g =
    let k : length (map f es) ≡ length es = length-map es f in
    subst (λ (u : List A). Front u old (set l n x)) (ap (λ (y : A). map f es ++ (y ∷ [])) g ∙ sym (map-append f es (e ∷ [])))
    (subst (λ (j : ℕ). Front (map f es ++ (x ∷ [])) old (set l j x)) (k ∙ sym c) (front-more (map f es) old l x h (omega arith)))

-- ---- no more than there are slots

module _ (r : Float) (q : Point3f) where
  found-length : (axis : ℕ) (t : Part) → length (found r q axis t) ≤ length (laid t)
  unfolding found laid parts one
  found-length axis empty = omega arith
  found-length axis (split n l rt) = go (goes_left q axis n) (found-length (next_axis axis) l) (found-length (next_axis axis) rt)
    where
      all : (pl : Float) (N F : List Slot) → length (one r q n ++ (N ++ cond (le pl (square r)) F [])) ≤ 1 + length N + length F
      all pl N F = pick (within r (entry q n)) (le pl (square r))
        where
          pick : (b c : Bool) → length (cond b (n ∷ []) [] ++ (N ++ cond c F [])) ≤ 1 + length N + length F
          pick true true = omega (arith, length-append N F)
          pick true false = omega (arith, length-append N [])
          pick false true = omega (arith, length-append N F)
          pick false false = omega (arith, length-append N [])

      L : List Slot
      L = found r q (next_axis axis) l

      R : List Slot
      R = found r q (next_axis axis) rt

      go : (c : Bool) → length L ≤ length (laid l) → length R ≤ length (laid rt) → length (parts r q (plane q axis n) n (cond c L R) (cond c R L)) ≤ suc (length (laid l ++ laid rt))
      go true a b = omega (arith, all (plane q axis n) L R, length-append (laid l) (laid rt))
      go false a b = omega (arith, all (plane q axis n) R L, length-append (laid l) (laid rt))

  pub gathered-length : (coords : List Float) (m : ℕ) → length (gathered coords m q r) ≤ m
  unfolding gathered
  gathered-length coords m =
      omega (arith, ap length (walk-found r q 0 (numbered coords m) []), length-map (found r q 0 (numbered coords m)) (entry q), found-length 0 (numbered coords m), numbered-length coords m)

-- ---- the search

falling : (r : Float) (q : Point3f) → Falling (gather r q) (plane_within r)
unfolding plane_within
falling r q pl n s h = h

-- what a step does to the lent lists
module _ {i : ℕ} {d reach : Float} {n : ℕ} {is : List ℕ} {ds : List Float} where
  pub kept-yes : le d reach ≡ true → Kept i d reach n is ds (n + 1) (set is n i) (set ds n d)
  kept-yes t = record { count = rw t (add-one n); indices = rw t; distances = rw t }

  pub kept-no : le d reach ≡ false → Kept i d reach n is ds n is ds
  kept-no t = record { count = rw t; indices = rw t; distances = rw t }

-- an entry that is kept stands behind those that are held
taken-more : (q : Point3f) (r : Float) (n : Slot) (d : Float) (es : List Entry) (is₀ : List ℕ) (ds₀ : List Float) (k : ℕ) (is : List ℕ) (ds : List Float) → d ≡ distance_squared q n.point
    → Taken es is₀ ds₀ k is ds → length es < length is₀ → length es < length ds₀ → (k' : ℕ) (is' : List ℕ) (ds' : List Float) → Kept n.index d (square r) k is ds k' is' ds'
    → Taken (gather r q n es) is₀ ds₀ k' is' ds'
unfolding gather within entry indices_in squares_in
taken-more q r n d es is₀ ds₀ k is ds e h room-is room-ds k' is' ds' step = go (le (distance_squared q n.point) (square r)) refl
  where
    go : (c : Bool) → le (distance_squared q n.point) (square r) ≡ c → Taken (cond c (es ++ (entry q n ∷ [])) es) is₀ ds₀ k' is' ds'
    go true t =
        let u : le d (square r) ≡ true = ap (λ (x : Float). le x (square r)) e ∙ t in
        record {
          count = step.count ∙ rw u (omega (arith, h.count, length-append es (entry q n ∷ [])));
          indices = rw (step.indices, u) (front-grown (λ x. x.index) es (entry q n) is₀ is k n.index h.indices room-is h.count refl);
          distances = rw (step.distances, u) (front-grown (λ x. x.distance) es (entry q n) ds₀ ds k d h.distances room-ds h.count e);
        }
    go false t =
        let u : le d (square r) ≡ false = ap (λ (x : Float). le x (square r)) e ∙ t in
        record { count = step.count ∙ rw u h.count; indices = rw (step.indices, u) h.indices; distances = rw (step.distances, u) h.distances }

gather-length : (r : Float) (q : Point3f) (n : Slot) (es : List Entry) → length (gather r q n es) ≤ length es + 1
unfolding gather
gather-length r q n es = go (within r (entry q n))
  where
    go : (c : Bool) → length (cond c (es ++ (entry q n ∷ [])) es) ≤ length es + 1
    go true = omega (arith, length-append es (entry q n ∷ []))
    go false = omega arith

module _ {asked : Asked} {room : ℕ} {search : WithinReach} {es : List Entry} (h : Holds asked room search es) where
  taken : Taken es asked.lists.is asked.lists.ds search.count search.slots.now search.squares.now
  taken = let a = h.room-es in front-taken h.front (omega arith)

  pub enters-by : (pl : Float) → le pl search.reach ≡ plane_within asked.radius pl es
  unfolding plane_within
  enters-by pl = ap (le pl) h.reach

module _ {asked : Asked} {room : ℕ} {search : WithinReach} {es : List Entry} (h : Holds asked (suc room) search es) where
  pub room-is : search.count < length search.slots.now
  room-is = omega (arith, h.room-es, h.front.room-is, h.front.held.count, (taken h).indices.long)

  pub room-ds : search.count < length search.squares.now
  room-ds = omega (arith, h.room-es, h.front.room-ds, h.front.held.count, (taken h).distances.long)

  -- one slot is looked at
  pub keeps : (n : Slot) (at : ℕ) (d : Float) → Met (rule asked) at d n
      → (search' : WithinReach) → search'.reach ≡ search.reach → search'.slots.ghost_name ≡ search.slots.ghost_name → search'.squares.ghost_name ≡ search.squares.ghost_name
      → Kept at d search.reach search.count search.slots.now search.squares.now search'.count search'.slots.now search'.squares.now
      → Holds asked room search' (gather asked.radius asked.query n es)
  keeps n at d met search' a b c step =
      let k : length (counting 0 asked.m) ≡ asked.m = counting-length 0 asked.m in
      let z : get_or (counting 0 asked.m) at 0 ≡ 0 + at = counting-get_or 0 asked.m at (omega (arith, met.within)) in
      let number : at ≡ n.index = omega (arith, met.index) in
      let r = h.room-es in
      let ri = h.front.room-is in
      let rd = h.front.room-ds in
      record {
        reach = a ∙ h.reach;
        room-es = omega (arith, gather-length asked.radius asked.query n es);
        front =
            front-next h.front b c
            (taken-more asked.query asked.radius n d es asked.lists.is asked.lists.ds search.count search.slots.now search.squares.now met.distance (taken h) (omega arith) (omega arith) search'.count search'.slots.now search'.squares.now
            (subst (λ (i : ℕ). Kept i d (square asked.radius) search.count search.slots.now search.squares.now search'.count search'.slots.now search'.squares.now) number
            (subst (λ (x : Float). Kept at d x search.count search.slots.now search.squares.now search'.count search'.slots.now search'.squares.now) h.reach step)));
      }

-- where it begins: nothing is held
pub begins : (m : ℕ) (q : Point3f) (r : Float) (is : List ℕ) (ds : List Float) (search : WithinReach)
    → search.reach ≡ square r → search.count ≡ 0 → search.slots.now ≡ is → search.squares.now ≡ ds → (m ≤ length is) × (m ≤ length ds)
    → Begins rule Holds m q search
    (record { m = m; query = q; radius = r; lists = record { is = is; ds = ds; is-name = search.slots.ghost_name; ds-name = search.squares.ghost_name } }) []
begins m q r is ds search a b c d room =
    record {
      from = refl;
      over = counting-length 0 m;
      falling = falling r q;
      holds = record { reach = a; room-es = omega arith; front = front-none refl b c d room };
    }
