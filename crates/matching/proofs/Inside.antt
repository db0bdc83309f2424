-- Every entry that matching writes is no match or names a target point, on any slots: an answer's index is its seed's, or one held in the tree.
use Prim.Native.Nat.{ℕ, suc, ◌+◌, ◌<◌}
use native.Mathlib.Nat.{add-zero, zero-add, add-suc, suc-add}
use native.Mathlib.Omega.{arith}
use mathlib.Core.Path.{◌≡◌, refl, sym, ap, ◌∙◌, subst}
use mathlib.Core.Bool.{Bool, true, false, not, ◌&&◌, cond, and-false}
use mathlib.Core.List.Memᴰ
use mathlib.Core.List.{List, [], ◌∷◌, Memᴰ}
use lib.Dec.{ltb, eqb}
use lib.ListN.{length, drop, get_or}
use lib.Ieee.{Float, lt}
use borrow.Author.Tests.{lt-ltb, eqb-false, ltb-true, not-false}
use Rattle.space.specs.declared.Point3f.{Point3f}
use Rattle.space.specs.Distance.{distance_squared}
use Rattle.tree.specs.Refuse.{count, no_match, any_entry_outside, any_index_outside}
use Rattle.tree.specs.Slots.{Slot, slots, point_at}
use Rattle.tree.specs.Part.{Part, empty, split, laid, lent}
use Rattle.tree.specs.Grow.{next_axis}
use Rattle.tree.specs.Walk.{walk}
use Rattle.tree.proofs.Slots.{slots_length}
use Rattle.tree.proofs.Shape.{laid-part_of}
use Rattle.tree.proofs.Walk.{goes_left, plane, entered}
use Rattle.search.specs.declared.Nearest.{Nearest}
use Rattle.search.specs.declared.Nearest.TheVariants.{Found, Nothing}
use Rattle.search.specs.Search.{limit, first_best, visit, enters, walked, searched}
use Rattle.matching.specs.Refusals.{Clear}
use Rattle.matching.specs.Entries.{entries_from}
use Rattle.matching.specs.Matching.{seed_of, match_of, answer_for, match_all}
use Rattle.tree.proofs.Outside.{neither, entry-below}

-- what every look at a slot keeps, the walk keeps
module _ {S : Type 0} (look : Slot → S → S) (goes : Float → S → Bool) (q : Point3f) (P : S → Type 0) where
  walk-keeps : (axis : ℕ) (t : Part) → ((n : Slot) → Memᴰ n (laid t) → (s : S) → P s → P (look n s)) → (s : S) → P s → P (walk look goes q axis t s)
  unfolding walk laid
  walk-keeps axis empty k s p = p
  walk-keeps axis (split n l r) k s p =
      go (goes_left q axis n)
      (walk-keeps (next_axis axis) l (λ m i. k m (Memᴰ.tail (Memᴰ.append_left (laid r) i))))
      (walk-keeps (next_axis axis) r (λ m i. k m (Memᴰ.tail (Memᴰ.append_right (laid l) i))))
      (look n s) (k n (Memᴰ.head refl) s p)
    where
      left : S → S
      left = walk look goes q (next_axis axis) l

      right : S → S
      right = walk look goes q (next_axis axis) r

      last : (near far : S → S) → ((u : S) → P u → P (near u)) → ((u : S) → P u → P (far u)) → (u : S) → P u → P (entered look goes (plane q axis n) far (near u))
      last near far hn hf u h = which (goes (plane q axis n) (near u))
        where
          which : (c : Bool) → P (cond c (far (near u)) (near u))
          which true = hf (near u) (hn u h)
          which false = hn u h

      go : (c : Bool) → ((u : S) → P u → P (left u)) → ((u : S) → P u → P (right u)) → (u : S) → P u → P (entered look goes (plane q axis n) (cond c right left) (cond c left right u))
      go true hl hr u h = last left right hl hr u h
      go false hl hr u h = last right left hr hl u h

-- the index of an answer, if there is one, is below n
abbrev Below : ℕ → Nearest → Type 0
Below n (Found i d) = i < n
Below n Nothing = Unit {0}

below-cond : (n : ℕ) (c : Bool) (a b : Nearest) → Below n a → Below n b → Below n (cond c a b)
below-cond n true a b h k = h
below-cond n false a b h k = k

below-first : (n : ℕ) (bound : Float) (seed : Nearest) → Below n seed → Below n (first_best bound seed)
below-first n bound (Found j e) h = below-cond n (lt e bound) (Found j e) Nothing h tt
below-first n bound Nothing h = tt

-- every slot has an index of the tree
slot-below : (n : ℕ) (coords : List Float) (indices : List ℕ) → any_index_outside n indices ≡ false → (s : Slot) → Memᴰ s (slots coords indices) → s.index < n
unfolding slots any_index_outside
slot-below n coords [] e s m = absurd (Memᴰ.not-nil m)
slot-below n coords (i ∷ indices) e s (Memᴰ.head k) =
    let h : i < n = ltb-true i n (not-false (ltb i n) (neither (not (ltb i n)) (any_index_outside n indices) e).0) in
    subst (λ (j : ℕ). j < n) (sym (ap (λ (t : Slot). t.index) k)) h
slot-below n coords (i ∷ indices) e s (Memᴰ.tail m) = slot-below n (drop 3 coords) indices (neither (not (ltb i n)) (any_index_outside n indices) e).1 s m

laid-lent : (coords : List Float) (indices : List ℕ) → laid (lent coords indices) ≡ slots coords indices
unfolding lent
laid-lent coords indices =
    let e : length (slots coords indices) ≡ length indices = slots_length coords indices in laid-part_of (length indices) (slots coords indices) (omega arith)

searched-below : (n : ℕ) (coords : List Float) (indices : List ℕ) (q : Point3f) (bound : Float) (seed : Nearest) → any_index_outside n indices ≡ false → Below n seed
    → Below n (searched coords indices q bound seed)
unfolding searched walked
searched-below n coords indices q bound seed e h =
    walk-keeps (visit q bound) (enters bound) q (Below n) 0 (lent coords indices)
    (λ s m best k. below-cond n (lt (distance_squared q s.point) (limit bound best)) (Found s.index (distance_squared q s.point)) best
    (slot-below n coords indices e s (subst (Memᴰ s) (laid-lent coords indices) m)) k)
    (first_best bound seed) (below-first n bound seed h)

seed-below : (n : ℕ) (target : List Float) (q : Point3f) (s : ℕ) → ((s ≡ no_match → ⊥) → s < n) → Below n (seed_of target q s)
unfolding seed_of
seed-below n target q s h = go (eqb s no_match) refl
  where
    go : (c : Bool) → eqb s no_match ≡ c → Below n (cond c Nothing (Found s (distance_squared q (point_at target s))))
    go true e = tt
    go false e = h (eqb-false s no_match e)

-- an entry is outside
abbrev bad : ℕ → ℕ → Bool
bad n m = not (eqb m no_match) && not (ltb m n)

-- that of such an answer is not
entry-inside : (n : ℕ) (a : Nearest) → Below n a → bad n (match_of a) ≡ false
entry-inside n (Found i d) h = rw (lt-ltb i n h) (and-false (not (eqb i no_match)))
entry-inside n Nothing h = refl

entries-inside : (entry : ℕ → ℕ → ℕ) (n j : ℕ) (ss : List ℕ) → ((i : ℕ) → i < length ss → bad n (entry (j + i) (get_or ss i 0)) ≡ false) → any_entry_outside n (entries_from entry j ss) ≡ false
unfolding any_entry_outside entries_from
entries-inside entry n j [] h = refl
entries-inside entry n j (s ∷ ss) h =
    let first : bad n (entry j s) ≡ false = subst (λ (k : ℕ). bad n (entry k s) ≡ false) (add-zero j) (h 0 (omega arith)) in
    let rest : any_entry_outside n (entries_from entry (suc j) ss) ≡ false =
    entries-inside entry n (suc j) ss (λ i l. subst (λ (k : ℕ). bad n (entry k (get_or ss i 0)) ≡ false) (add-suc j i ∙ sym (suc-add j i)) (h (suc i) (omega arith))) in
    rw (first, rest)

pub matches-inside : (source target coords : List Float) (indices : List ℕ) (bound : Float) (matches : List ℕ) → Clear source target coords indices matches
    → any_entry_outside (count target) (match_all source target coords indices bound matches) ≡ false
unfolding match_all answer_for
matches-inside source target coords indices bound matches cl =
    entries-inside (λ i s. match_of (answer_for source target coords indices bound i s)) (count target) 0 matches (λ i h.
    subst (λ (k : ℕ). bad (count target) (match_of (answer_for source target coords indices bound k (get_or matches i 0))) ≡ false) (sym (zero-add i))
    (entry-inside (count target) (answer_for source target coords indices bound i (get_or matches i 0))
    (searched-below (count target) coords indices (point_at source i) bound (seed_of target (point_at source i) (get_or matches i 0)) cl.indices_inside
    (seed-below (count target) target (point_at source i) (get_or matches i 0) (entry-below (count target) matches i h cl.seeds_inside)))))
