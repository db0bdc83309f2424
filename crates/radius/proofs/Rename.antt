-- Lent slots numbered by themselves: they are numbered as a part has it, and the walk over them is the walk over the lent slots with other indices. Assumes nothing.
use mathlib.Core.Path.{◌≡◌, refl, sym, ap, ap₂, ◌∙◌, subst}
use mathlib.Core.Bool.{Bool, true, false, cond}
use mathlib.Core.List.{List, [], ◌∷◌, ◌++◌, map, map-append}
use Prim.Native.Nat.{ℕ, zero, suc, ◌+◌, ◌/◌, ◌≤◌, ◌<◌}
use native.Mathlib.Nat.{le_of_suc-le-suc, not-suc-le-zero}
use native.Mathlib.Omega.{arith}
use lib.Dec.{leb}
use lib.ListN.{length, get_or, take, drop, length-map, length-take, length-drop}
use lib.Seq.{length-take-le}
use lib.Ieee.{Float}
use Rattle.space.specs.declared.Point3f.{Point3f}
use Rattle.tree.specs.Slots.{Slot, slot, point_at, slots}
use Rattle.tree.specs.Part.{Part, split, laid, part_of, lent}
use Rattle.tree.specs.Sort.{insert, sort}
use Rattle.tree.specs.Walk.{walk}
use Rattle.tree.proofs.Slots.{slots_length}
use Rattle.tree.proofs.Shape.{laid-part_of}
use Rattle.tree.proofs.Cloud.{lent_laid}
use Rattle.lists.specs.Entry.{Entry, entry, far, indices_in, squares_in}
use Rattle.lists.specs.Radius.{within, gather, plane_within}
use Rattle.lists.proofs.Follow.{changed, walk-follows}
use Rattle.lists.proofs.Offering.{map-take, map-drop}
use Rattle.radius.specs.Pairs.{pair}
use Rattle.radius.specs.Near.{counting, numbered, gathered}
use Rattle.radius.proofs.Found.{Numbered}

-- ---- counting

pub counting-length : (s n : ℕ) → length (counting s n) ≡ n
unfolding counting
counting-length s zero = refl
counting-length s (suc n) = ap suc (counting-length (suc s) n)

pub counting-get_or : (s n i : ℕ) → i < n → get_or (counting s n) i 0 ≡ s + i
unfolding counting
counting-get_or s zero i h = absurd (not-suc-le-zero h)
counting-get_or s (suc n) zero h = omega arith
counting-get_or s (suc n) (suc i) h = counting-get_or (suc s) n i (le_of_suc-le-suc h) ∙ next s i
  where
    next : (a b : ℕ) → suc a + b ≡ a + suc b
    next a b = omega arith

counting-up : {A : Type 0} (f : ℕ → A) (s n : ℕ) → map f (counting (suc s) n) ≡ map (λ i. f (suc i)) (counting s n)
unfolding counting
counting-up f s zero = refl
counting-up {A} f s (suc n) = ap (λ (u : List A). f (suc s) ∷ u) (counting-up f (suc s) n)

counting-all : (l : List ℕ) → map (λ i. get_or l i 0) (counting 0 (length l)) ≡ l
unfolding counting
counting-all [] = refl
counting-all (x ∷ l) = ap (λ (u : List ℕ). x ∷ u) (counting-up (λ i. get_or (x ∷ l) i 0) 0 (length l) ∙ counting-all l)

-- ---- numbered slots

unfoldable Counted : ℕ → List Slot → Type 0
Counted s [] = Unit {0}
Counted s (n ∷ ss) = (n.index ≡ s) × Counted (suc s) ss

counted-slots : (coords : List Float) (s n : ℕ) → Counted s (slots coords (counting s n))
unfolding Counted counting slots
counted-slots coords s zero = tt
counted-slots coords s (suc n) = (refl, counted-slots (drop 3 coords) (suc s) n)

counted-take : (s k : ℕ) (ss : List Slot) → Counted s ss → Counted s (take k ss)
unfolding Counted
counted-take s zero ss c = tt
counted-take s (suc k) [] c = tt
counted-take s (suc k) (n ∷ ss) c = (c.0, counted-take (suc s) k ss c.1)

counted-drop : (s k t : ℕ) (ss : List Slot) → t ≡ s + k → Counted s ss → Counted t (drop k ss)
unfolding Counted
counted-drop s zero t ss e c = let f : s ≡ t = omega arith in subst (λ (j : ℕ). Counted j ss) f c
counted-drop s (suc k) t [] e c = tt
counted-drop s (suc k) t (n ∷ ss) e c = counted-drop (suc s) k t ss (omega arith) c.1

numbered-part : (f s : ℕ) (ss : List Slot) → length ss ≤ f → Counted s ss → Numbered s (part_of f ss)
unfolding part_of Numbered Counted
numbered-part zero s ss h c = tt
numbered-part (suc f) s [] h c = tt
numbered-part (suc f) s (n ∷ ss) h c = (
  c.0,
  numbered-part f (suc s) (take (length ss / 2) ss) left (counted-take (suc s) (length ss / 2) ss c.1),
  numbered-part f (suc s + length (laid (part_of f (take (length ss / 2) ss)))) (drop (length ss / 2) ss) (omega (arith, length-drop (length ss / 2) ss))
      (counted-drop (suc s) (length ss / 2) (suc s + length (laid (part_of f (take (length ss / 2) ss)))) ss (ap (λ (k : ℕ). suc s + k) size) c.1),
)
  where
    left : length (take (length ss / 2) ss) ≤ f
    left = omega (arith, length-take (length ss / 2) ss)

    size : length (laid (part_of f (take (length ss / 2) ss))) ≡ length ss / 2
    size = ap length (laid-part_of f (take (length ss / 2) ss) left) ∙ length-take-le (length ss / 2) ss (omega arith)

pub numbered_is : (coords : List Float) (m : ℕ) → Numbered 0 (numbered coords m)
unfolding numbered lent
numbered_is coords m =
    numbered-part (length (counting 0 m)) 0 (slots coords (counting 0 m)) (omega (arith, slots_length coords (counting 0 m))) (counted-slots coords 0 m)

pub numbered-length : (coords : List Float) (m : ℕ) → length (laid (numbered coords m)) ≡ m
unfolding numbered
numbered-length coords m = ap length (lent_laid coords (counting 0 m)) ∙ slots_length coords (counting 0 m) ∙ counting-length 0 m

-- ---- other indices

module _ (indices : List ℕ) where
  -- a slot and an entry with the index that a number stands for
  abbrev reslot : Slot → Slot
  reslot n = slot n.point (get_or indices n.index 0)

  abbrev pub rename : Entry → Entry
  rename e = pair (get_or indices e.index 0) e.distance

  slots_map : (f : ℕ → ℕ) (coords : List Float) (js : List ℕ) → slots coords (map f js) ≡ map (λ n. slot n.point (f n.index)) (slots coords js)
  unfolding slots
  slots_map f coords [] = refl
  slots_map f coords (j ∷ js) = ap (λ (u : List Slot). slot (point_at coords 0) (f j) ∷ u) (slots_map f (drop 3 coords) js)

  part-map : (g : Slot → Slot) (f : ℕ) (ss : List Slot) → part_of f (map g ss) ≡ changed g (part_of f ss)
  unfolding part_of changed
  part-map g zero ss = refl
  part-map g (suc f) [] = refl
  part-map g (suc f) (n ∷ ss) =
      ap (λ (k : ℕ). split (g n) (part_of f (take (k / 2) (map g ss))) (part_of f (drop (k / 2) (map g ss)))) (length-map ss g)
      ∙ ap₂ (λ (u v : List Slot). split (g n) (part_of f u) (part_of f v)) (map-take g (length ss / 2) ss) (map-drop g (length ss / 2) ss)
      ∙ ap₂ (split (g n)) (part-map g f (take (length ss / 2) ss)) (part-map g f (drop (length ss / 2) ss))

  lent-changed : (coords : List Float) → lent coords indices ≡ changed reslot (numbered coords (length indices))
  unfolding lent numbered
  lent-changed coords =
      ap (λ (u : List Slot). part_of (length indices) u) (ap (slots coords) (sym (counting-all indices)) ∙ slots_map (λ i. get_or indices i 0) coords (counting 0 (length indices)))
      ∙ part-map reslot (length indices) (slots coords (counting 0 (length indices)))
      ∙ ap (λ (k : ℕ). changed reslot (part_of k (slots coords (counting 0 (length indices))))) (sym (counting-length 0 (length indices)))

  gather-renamed : (r : Float) (q : Point3f) (n : Slot) (es : List Entry) → map rename (gather r q n es) ≡ gather r q (reslot n) (map rename es)
  unfolding gather within entry
  gather-renamed r q n es = go (within r (entry q n))
    where
      go : (c : Bool) → map rename (cond c (es ++ (entry q n ∷ [])) es) ≡ cond c (map rename es ++ (entry q (reslot n) ∷ [])) (map rename es)
      go true = unfold entry in map-append rename es (entry q n ∷ [])
      go false = refl

  -- the walk over the lent slots
  pub walk-renamed : (coords : List Float) (q : Point3f) (r : Float) → walk (gather r q) (plane_within r) q 0 (lent coords indices) [] ≡ map rename (gathered coords (length indices) q r)
  unfolding gathered plane_within
  walk-renamed coords q r =
      ap (λ (t : Part). walk (gather r q) (plane_within r) q 0 t []) (lent-changed coords)
      ∙ sym (walk-follows (map rename) reslot (gather r q) (plane_within r) (gather r q) (plane_within r) q (λ n. refl) (gather-renamed r q) (λ pl s. refl) 0 (numbered coords (length indices)) [])

  -- ---- and the sort

  insert-renamed : (e : Entry) (es : List Entry) → insert far (rename e) (map rename es) ≡ map rename (insert far e es)
  unfolding insert far
  insert-renamed e [] = refl
  insert-renamed e (f ∷ es) = go (leb (far e) (far f)) (insert-renamed e es)
    where
      go : (c : Bool) → insert far (rename e) (map rename es) ≡ map rename (insert far e es)
          → cond c (rename e ∷ rename f ∷ map rename es) (rename f ∷ insert far (rename e) (map rename es)) ≡ map rename (cond c (e ∷ f ∷ es) (f ∷ insert far e es))
      go true h = refl
      go false h = ap (λ (u : List Entry). rename f ∷ u) h

  pub sort-renamed : (es : List Entry) → sort far (map rename es) ≡ map rename (sort far es)
  unfolding sort
  sort-renamed [] = refl
  sort-renamed (e ∷ es) = ap (insert far (rename e)) (sort-renamed es) ∙ insert-renamed e (sort far es)

  pub indices-renamed : (es : List Entry) → indices_in (map rename es) ≡ map (λ i. get_or indices i 0) (indices_in es)
  unfolding indices_in
  indices-renamed [] = refl
  indices-renamed (e ∷ es) = ap (λ (u : List ℕ). get_or indices e.index 0 ∷ u) (indices-renamed es)

  pub squares-renamed : (es : List Entry) → squares_in (map rename es) ≡ squares_in es
  unfolding squares_in
  squares-renamed [] = refl
  squares-renamed (e ∷ es) = ap (λ (u : List Float). e.distance ∷ u) (squares-renamed es)
