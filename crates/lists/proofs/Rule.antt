-- The refusals of an entry, and what it leaves behind: from the number that the code finds to the rule. Assumes nothing.
use mathlib.Core.Path.{◌≡◌, refl, sym, ap, ap₂, ◌∙◌, subst}
use mathlib.Core.Bool.{Bool, true, false}
use mathlib.Core.List.{List, [], ◌∷◌, ◌++◌, map, map-append, append_assoc, append-nil}
use Prim.Native.Nat.{ℕ, suc, min, ◌+◌, ◌^◌, ◌≤◌, ◌<◌}
use native.Mathlib.Numerals.{add-one}
use native.Mathlib.Omega.{arith}
use lib.Dec.{T, ltb}
use lib.ListN.{length, get_or, set, take, drop, length-map, length-append, length-take, length-drop}
use lib.Seq.{take_at, drop_at, get_or_at, set_at, take-suc, drop-cons, length-take-le, take_all}
use lib.Ieee.{Float, nan, binary32, fits}
use Rattle.std.proofs.lemmas.List.{drop_all}
use borrow.Author.Tests.{ltb-true, ltb-false}
use Rattle.bits.specs.Root.{root}
use Rattle.space.specs.declared.Point3f.{Point3f}
use Rattle.tree.specs.Refuse.{Outcome, refused, gives, overwrite}
use Rattle.std.proofs.Common.{Ok, Err}
use Rattle.tree.specs.Refusal.{number_of}
use Rattle.tree.specs.declared.Refusal.{Refusal}
use Rattle.tree.proofs.Outcomes.{and_then, refuse-and_then}
use Rattle.tree.specs.Part.{laid, lent}
use Rattle.tree.specs.Lent.{Lent}
use Rattle.tree.proofs.Slots.{slots_length}
use Rattle.tree.proofs.Cloud.{lent_laid}
use Rattle.lists.specs.Entry.{Entry, indices_in, squares_in, roots_in}
use Rattle.lists.specs.Shift.{first_by}
use Rattle.lists.specs.KNearest.{k_nearest}
use Rattle.lists.specs.Entries.{on_lists, listing, nearest_listing, Written, Held, NearestWritten}
use Rattle.lists.proofs.Cut.{k-cut}
use Rattle.lists.specs.Nearest.{see, judge}
use Rattle.lists.proofs.Seen.{seen_all, held-few}
use Rattle.lists.proofs.Built.{k-built}
use Rattle.tree.specs.Walk.{walk}

-- ---- the refusals

-- refused, or the tree
abbrev pub lined : List Float → List ℕ → List ℕ → List Float → ℕ → Outcome Lent
lined coords indices is ds n = on_lists coords indices is ds n (gives (record { coords = coords; indices = indices }))

module _ {o : Outcome Lent} (coords : List Float) (indices : List ℕ) (is : List ℕ) (ds : List Float) (n : ℕ) (es : List Entry) where
  pub listing-told : o ≡ lined coords indices is ds n → and_then o (gives es) ≡ listing coords indices is ds n es
  listing-told told = ap (λ (o : Outcome Lent). and_then o (gives es)) told ∙ simp refuse-and_then

-- ---- what is left behind

module _ {rule : Outcome (List Entry)} {handed : List Entry → List Float} {is : List ℕ} {ds : List Float} where
  pub written-refused : (k : Refusal) → refused (number_of k) ≡ rule → Written rule handed is ds (Err k) is ds
  written-refused k told = let e = sym told in record { answer = rw e; indices = rw e; distances = rw e }

  pub written-gives : (es : List Entry) {n : ℕ} {is' : List ℕ} {ds' : List Float} → rule ≡ gives es → Held es handed is ds n is' ds' → Written rule handed is ds (Ok n) is' ds'
  written-gives es e h = record { answer = rw e (ap gives h.count); indices = rw e h.indices; distances = rw e h.distances }

-- ---- k cut to the number of slots

module _ (coords : List Float) (indices : List ℕ) (q : Point3f) where
  lent_length : length (laid (lent coords indices)) ≡ length indices
  lent_length = ap length (lent_laid coords indices) ∙ slots_length coords indices

  pub k-least : (k : ℕ) → k_nearest q k (lent coords indices) ≡ k_nearest q (min k (length indices)) (lent coords indices)
  k-least k = go (ltb k (length indices)) refl
    where
      go : (c : Bool) → ltb k (length indices) ≡ c → k_nearest q k (lent coords indices) ≡ k_nearest q (min k (length indices)) (lent coords indices)
      go true p = let h = ltb-true k (length indices) p in let e : min k (length indices) ≡ k = omega arith in ap (λ (j : ℕ). k_nearest q j (lent coords indices)) (sym e)
      go false p =
          let h = ltb-false k (length indices) p in
          let e : length (laid (lent coords indices)) ≡ min k (length indices) = omega (arith, lent_length) in
          k-cut q k (lent coords indices) (omega (arith, lent_length)) ∙ ap (λ (j : ℕ). k_nearest q j (lent coords indices)) e

  pub k-few : (k : ℕ) → length (k_nearest q k (lent coords indices)) ≤ k
  k-few k = subst (λ (es : List Entry). length es ≤ k) (seen_all k q (lent coords indices)) (held-few k q (walk see (judge k q) q 0 (lent coords indices) []))

  pub k-none : (k : ℕ) → min k (length indices) ≡ 0 → k_nearest q k (lent coords indices) ≡ []
  k-none k e = none (k_nearest q k (lent coords indices)) (omega (arith, ap length (k-least k), k-few (min k (length indices))))
    where
      none : (es : List Entry) → length es ≤ 0 → es ≡ []
      none [] h = refl
      none (x ∷ es) h = absurd (omega arith)

  pub count_small : (k : ℕ) → length indices ≤ 1048576 → length (k_nearest q k (lent coords indices)) ≤ 1048576
  count_small k h = omega (arith, ap length (k-least k), k-few (min k (length indices)))

pub squares-none : squares_in [] ≡ []
unfolding squares_in
squares-none = refl

-- nothing is written where there is nothing
pub held_none : (handed : List Entry → List Float) (is : List ℕ) (ds : List Float) → handed [] ≡ [] → Held [] handed is ds 0 is ds
unfolding indices_in
held_none handed is ds e = record { count = refl; indices = refl; distances = rw e }

pub held-as : {handed : List Entry → List Float} {es es' : List Entry} {is : List ℕ} {ds : List Float} {n : ℕ} {is' : List ℕ} {ds' : List Float} → es' ≡ es → Held es handed is ds n is' ds' → Held es' handed is ds n is' ds'
held-as {handed} {es} {es'} {is} {ds} {n} {is'} {ds'} e h = subst (λ (x : List Entry). Held x handed is ds n is' ds') (sym e) h

-- ---- k nearest as an entry

module _ (handed : List Entry → List Float) (coords : List Float) (indices : List ℕ) (q : Point3f) (k : ℕ) (is : List ℕ) (ds : List Float)
    (floats : (i : ℕ) → T (fits binary32 (get_or coords i nan))) (small : (i : ℕ) → get_or indices i 0 < 2 ^ 32)
  where
    pub nearest-refused : (most : ℕ) (w : Refusal) → most ≡ min k (length indices) → refused (number_of w) ≡ lined coords indices is ds most
        → NearestWritten handed coords indices q k is ds (Err w) is ds
    unfolding nearest_listing
    nearest-refused most w a e =
        record {
          written = written-refused w (listing-told coords indices is ds (min k (length indices)) (k_nearest q k (lent coords indices)) (e ∙ ap (lined coords indices is ds) a));
          built = λ cloud t. k-built coords indices cloud floats small t q k;
        }

    pub nearest-given : {n : ℕ} {is' : List ℕ} {ds' : List Float} {tree : Lent} (most : ℕ) → most ≡ min k (length indices) → gives tree ≡ lined coords indices is ds most
        → Held (k_nearest q most (lent coords indices)) handed is ds n is' ds' → NearestWritten handed coords indices q k is ds (Ok n) is' ds'
    unfolding nearest_listing
    nearest-given most a e h =
        record {
          written =
              written-gives (k_nearest q k (lent coords indices))
              (sym (listing-told coords indices is ds (min k (length indices)) (k_nearest q k (lent coords indices)) (e ∙ ap (lined coords indices is ds) a)))
              (held-as (k-least coords indices q k ∙ ap (λ (j : ℕ). k_nearest q j (lent coords indices)) (sym a)) h);
          built = λ cloud t. k-built coords indices cloud floats small t q k;
        }

-- ---- roots in place of squares

module _ {A : Type 0} (f : A → A) (d : A) (l : List A) (i : ℕ) (h : i < length l) where
  size-first : length (map f (take i l)) ≡ i
  size-first = length-map (take i l) f ∙ length-take-le i l (omega arith)

  here : first_by f l i ≡ map f (take i l) ++ get_or l i d ∷ drop (suc i) l
  here = ap (λ (u : List A). map f (take i l) ++ u) (drop-cons l i d h)

  -- what stands at i is as it was
  pub first-at : get_or (first_by f l i) i d ≡ get_or l i d
  first-at = ap (λ (u : List A). get_or u i d) here ∙ get_or_at (map f (take i l)) (get_or l i d) (drop (suc i) l) d i size-first

  -- one more
  pub first_more : set (first_by f l i) i (f (get_or l i d)) ≡ first_by f l (i + 1)
  first_more =
      ap (λ (u : List A). set u i (f (get_or l i d))) here
      ∙ set_at (map f (take i l)) (get_or l i d) (drop (suc i) l) (f (get_or l i d)) i size-first
      ∙ sym (ap (first_by f l) (add-one i) ∙ ap (λ (u : List A). map f u ++ drop (suc i) l) (take-suc l i d h) ∙ ap (λ (u : List A). u ++ drop (suc i) l) (map-append f (take i l) (get_or l i d ∷ []))
      ∙ append_assoc (map f (take i l)) (f (get_or l i d) ∷ []) (drop (suc i) l))

-- in the code's terms
pub first-turn : {A : Type 0} (f : A → A) (d : A) (l cur : List A) (i : ℕ) (v : A) → i < length l → cur ≡ first_by f l i → v ≡ f (get_or cur i d) → set cur i v ≡ first_by f l (i + 1)
first-turn {A} f d l cur i v h e g =
    let w : v ≡ f (get_or l i d) = g ∙ ap f (ap (λ (u : List A). get_or u i d) e ∙ first-at f d l i h) in
    ap₂ (λ (u : List A) (x : A). set u i x) e w ∙ first_more f d l i h

pub first-length : {A : Type 0} (f : A → A) (l : List A) (i : ℕ) → length (first_by f l i) ≡ length l
first-length f l i = length-append (map f (take i l)) (drop i l) ∙ omega (arith, length-map (take i l) f, length-take i l, length-drop i l)

-- the first n by themselves, all changed
pub first_all : {A : Type 0} (f : A → A) (l cur : List A) (n i : ℕ) → length (take n l) ≤ i → cur ≡ first_by f (take n l) i → cur ++ drop n l ≡ first_by f l n
first_all {A} f l cur n i h e =
    ap (λ (u : List A). u ++ drop n l) (e ∙ ap₂ (λ (u v : List A). map f u ++ v) (take_all i (take n l) h) (drop_all i (take n l) h) ∙ append-nil (map f (take n l)))

pub held_fits : {es : List Entry} {is : List ℕ} {ds : List Float} {n : ℕ} {is' : List ℕ} {ds' : List Float} → Held es squares_in is ds n is' ds' → n ≤ length ds'
unfolding squares_in
held_fits {es} {is} {ds} {n} {is'} {ds'} h =
    omega (arith, h.count, ap length h.distances, length-append (map (λ e. e.distance) es) (drop (length (map (λ e. e.distance) es)) ds), length-map es (λ e. e.distance))

pub held-roots : {es : List Entry} {is : List ℕ} {ds : List Float} {n : ℕ} {is' : List ℕ} {ds' : List Float} → Held es squares_in is ds n is' ds' → Held es roots_in is ds n is' (first_by (root binary32) ds' n)
unfolding squares_in roots_in
held-roots {es} {is} {ds} {n} {is'} {ds'} h = record { count = h.count; indices = h.indices; distances = go }
  where
    size : length (map (λ e. e.distance) es) ≡ n
    size = length-map es (λ e. e.distance) ∙ sym h.count

    each-root : (l : List Entry) → map (root binary32) (map (λ e. e.distance) l) ≡ map (λ e. root binary32 e.distance) l
    each-root [] = refl
    each-root (x ∷ l) = ap (λ (u : List Float). root binary32 x.distance ∷ u) (each-root l)

    same : length (map (λ e. e.distance) es) ≡ length (map (λ e. root binary32 e.distance) es)
    same = length-map es (λ e. e.distance) ∙ sym (length-map es (λ e. root binary32 e.distance))

    go : first_by (root binary32) ds' n ≡ overwrite (map (λ e. root binary32 e.distance) es) ds
    go =
        ap (λ (u : List Float). first_by (root binary32) u n) h.distances
        ∙ ap₂ (λ (u v : List Float). map (root binary32) u ++ v) (take_at (map (λ e. e.distance) es) (drop (length (map (λ e. e.distance) es)) ds) n size)
        (drop_at (map (λ e. e.distance) es) (drop (length (map (λ e. e.distance) es)) ds) n size)
        ∙ ap₂ (λ (u v : List Float). u ++ v) (each-root es) (ap (λ (j : ℕ). drop j ds) same)

pub held-rooted : {es : List Entry} {is : List ℕ} {ds : List Float} {n : ℕ} {is' : List ℕ} {ds' ds'' : List Float} → Held es squares_in is ds n is' ds' → ds'' ≡ first_by (root binary32) ds' n → Held es roots_in is ds n is' ds''
held-rooted {es} {is} {ds} {n} {is'} {ds'} {ds''} h e = subst (λ (u : List Float). Held es roots_in is ds n is' u) (sym e) (held-roots h)

-- what an answer says of the rule and of the lists: a number that they hold so many of its entries, a refusal that they are as they were, whatever is handed out
module _ {handed : List Entry → List Float} {is : List ℕ} {ds : List Float} {is' : List ℕ} {ds' : List Float} where
  written_held : {n : ℕ} (rule : Outcome (List Entry)) → Written rule handed is ds (Ok n) is' ds' → (es : List Entry) × (rule ≡ gives es) × Held es handed is ds n is' ds'
  written_held (refused m) w = let p = w.answer in absurd (let z : ◌≡◌ {A = ℕ} 0 1 = cc in omega arith)
  written_held {n} (gives es) w = let p = w.answer in (es, refl, record { count = let g : n ≡ length es = cc in g; indices = w.indices; distances = w.distances })

  written-kept : {k : Refusal} (other : List Entry → List Float) (rule : Outcome (List Entry)) → Written rule handed is ds (Err k) is' ds' → Written rule other is ds (Err k) is' ds'
  written-kept other (refused m) w = record { answer = w.answer; indices = w.indices; distances = w.distances }
  written-kept other (gives es) w = let p = w.answer in absurd (let z : ◌≡◌ {A = ℕ} 0 1 = cc in omega arith)

module _ {coords : List Float} {indices : List ℕ} {q : Point3f} {k : ℕ} {is : List ℕ} {ds : List Float} {is' : List ℕ} {ds' : List Float} where
  module _ {n : ℕ} (w : NearestWritten squares_in coords indices q k is ds (Ok n) is' ds') where
    pub nearest-fits : n ≤ length ds'
    nearest-fits = held_fits (written_held _ w.written).2

    pub nearest-rooted : {ds'' : List Float} → ds'' ≡ first_by (root binary32) ds' n → NearestWritten roots_in coords indices q k is ds (Ok n) is' ds''
    nearest-rooted f = let h = written_held _ w.written in record { written = written-gives h.0 h.1 (held-rooted h.2 f); built = w.built }

  pub nearest-kept : {e : Refusal} → NearestWritten squares_in coords indices q k is ds (Err e) is' ds' → NearestWritten roots_in coords indices q k is ds (Err e) is' ds'
  nearest-kept w = record { written = written-kept roots_in _ w.written; built = w.built }
