-- What the walk of radius gathers, in a list of its own: it does not hang on what is held. On numbered slots their places in near-first order rise strictly. Assumes nothing.
use mathlib.Core.Path.{◌≡◌, refl, sym, ap, ◌∙◌}
use mathlib.Core.Bool.{Bool, true, false, cond}
use mathlib.Core.Logic.{⊎_elim}
use mathlib.Core.List.{List, [], ◌∷◌, ◌++◌, map, map-append, append_assoc, append-nil}
use mathlib.Core.List.Memᴰ
use mathlib.Core.List.{Memᴰ}
use Prim.Native.Nat.{ℕ, zero, suc, ◌+◌, ◌-◌, ◌≤◌, ◌<◌}
use native.Mathlib.Omega.{arith}
use lib.Dec.{ltb}
use lib.ListN.{length, length-append}
use lib.Ieee.{Float, le}
use borrow.Author.Tests.{ltb-true, ltb-false, lt-ltb, le-ltb}
use Rattle.space.specs.declared.Point3f.{Point3f}
use Rattle.space.specs.Distance.{square}
use Rattle.tree.specs.Slots.{Slot}
use Rattle.tree.specs.Part.{Part, empty, split, laid}
use Rattle.tree.specs.Grow.{next_axis}
use Rattle.tree.specs.Walk.{walk}
use Rattle.tree.proofs.Walk.{goes_left, plane, entered}
use Rattle.lists.specs.Entry.{Entry, entry}
use Rattle.lists.specs.Radius.{within, gather, plane_within}
use Rattle.radius.specs.Near.{turn}
use Rattle.radius.proofs.Rising.{Rising, rising-append, rising-shift}

module _ (r : Float) (q : Point3f) where
  unfoldable pub one : Slot → List Slot
  one n = cond (within r (entry q n)) (n ∷ []) []

  -- node, near part, far part if its plane is within
  unfoldable pub parts : Float → Slot → List Slot → List Slot → List Slot
  parts pl n near far = one n ++ (near ++ cond (le pl (square r)) far [])

  unfoldable pub found : ℕ → Part → List Slot
  unfolding parts one
  found axis empty = []
  found axis (split n left right) =
      parts (plane q axis n) n (cond (goes_left q axis n) (found (next_axis axis) left) (found (next_axis axis) right)) (cond (goes_left q axis n) (found (next_axis axis) right) (found (next_axis axis) left))

  gather-one : (n : Slot) (es : List Entry) → gather r q n es ≡ es ++ map (entry q) (one n)
  unfolding gather one
  gather-one n es = go (within r (entry q n))
    where
      go : (c : Bool) → cond c (es ++ (entry q n ∷ [])) es ≡ es ++ map (entry q) (cond c (n ∷ []) [])
      go true = refl
      go false = sym (append-nil es)

  joined : (pl : Float) (n : Slot) (near far : List Entry → List Entry) (N F : List Slot) → ((u : List Entry) → near u ≡ u ++ map (entry q) N) → ((u : List Entry) → far u ≡ u ++ map (entry q) F)
      → (es : List Entry) → entered (gather r q) (plane_within r) pl far (near (gather r q n es)) ≡ es ++ map (entry q) (parts pl n N F)
  unfolding plane_within parts
  joined pl n near far N F hn hf es =
      ap (λ (u : List Entry). cond (le pl (square r)) (far u) u) (hn (gather r q n es) ∙ ap (λ (u : List Entry). u ++ map (entry q) N) (gather-one n es))
      ∙ go (le pl (square r))
    where
      u : List Entry
      u = es ++ map (entry q) (one n) ++ map (entry q) N

      whole : (X : List Slot) → es ++ map (entry q) (one n) ++ map (entry q) N ++ map (entry q) X ≡ es ++ map (entry q) (one n ++ (N ++ X))
      whole X =
          append_assoc (es ++ map (entry q) (one n)) (map (entry q) N) (map (entry q) X)
          ∙ append_assoc es (map (entry q) (one n)) (map (entry q) N ++ map (entry q) X)
          ∙ ap (λ (v : List Entry). es ++ v) (ap (λ (v : List Entry). map (entry q) (one n) ++ v) (sym (map-append (entry q) N X)) ∙ sym (map-append (entry q) (one n) (N ++ X)))

      go : (c : Bool) → cond c (far (es ++ map (entry q) (one n) ++ map (entry q) N)) (es ++ map (entry q) (one n) ++ map (entry q) N) ≡ es ++ map (entry q) (one n ++ (N ++ cond c F []))
      go true = hf (es ++ map (entry q) (one n) ++ map (entry q) N) ∙ whole F
      go false = sym (append-nil (es ++ map (entry q) (one n) ++ map (entry q) N)) ∙ whole []

  pub walk-found : (axis : ℕ) (t : Part) (es : List Entry) → walk (gather r q) (plane_within r) q axis t es ≡ es ++ map (entry q) (found axis t)
  unfolding walk found
  walk-found axis empty es = sym (append-nil es)
  walk-found axis (split n left right) es = go (goes_left q axis n) (walk-found (next_axis axis) left) (walk-found (next_axis axis) right)
    where
      L : List Entry → List Entry
      L = walk (gather r q) (plane_within r) q (next_axis axis) left

      R : List Entry → List Entry
      R = walk (gather r q) (plane_within r) q (next_axis axis) right

      go : (c : Bool) → ((u : List Entry) → L u ≡ u ++ map (entry q) (found (next_axis axis) left)) → ((u : List Entry) → R u ≡ u ++ map (entry q) (found (next_axis axis) right))
          → entered (gather r q) (plane_within r) (plane q axis n) (cond c R L) (cond c L R (gather r q n es))
          ≡ es ++ map (entry q) (parts (plane q axis n) n (cond c (found (next_axis axis) left) (found (next_axis axis) right)) (cond c (found (next_axis axis) right) (found (next_axis axis) left)))
      go true hl hr = joined (plane q axis n) n L R (found (next_axis axis) left) (found (next_axis axis) right) hl hr es
      go false hl hr = joined (plane q axis n) n R L (found (next_axis axis) right) (found (next_axis axis) left) hr hl es

  -- ---- what is among them
  parts-mem : (pl : Float) (n x : Slot) (N F : List Slot) {P : Type 0} → Memᴰ x (parts pl n N F) → (x ≡ n → P) → (Memᴰ x N → P) → (Memᴰ x F → P) → P
  unfolding parts one
  parts-mem pl n x N F {P} m a b c = ⊎_elim (first (within r (entry q n))) (λ k. ⊎_elim b (last (le pl (square r))) (Memᴰ.append_cases N k)) (Memᴰ.append_cases (one n) m)
    where
      first : (t : Bool) → Memᴰ x (cond t (n ∷ []) []) → P
      first true k = ⊎_elim a (λ z. absurd (Memᴰ.not-nil z)) (Memᴰ.cases_cons k)
      first false k = absurd (Memᴰ.not-nil k)

      last : (t : Bool) → Memᴰ x (cond t F []) → P
      last true k = c k
      last false k = absurd (Memᴰ.not-nil k)

  parts-rising : (tie : Slot → ℕ) (pl : Float) (n : Slot) (N F : List Slot) → Rising tie N → Rising tie F → ((x : Slot) → Memᴰ x N → tie n < tie x) → ((x : Slot) → Memᴰ x F → tie n < tie x)
      → ((x y : Slot) → Memᴰ x N → Memᴰ y F → tie x < tie y) → Rising tie (parts pl n N F)
  unfolding parts one Rising
  parts-rising tie pl n N F a b c d e = first (within r (entry q n)) (last (le pl (square r)))
    where
      last : (t : Bool) → Rising tie (N ++ cond t F [])
      last true = rising-append tie N F a b e
      last false = rising-append tie N [] a tt (λ x y m k. absurd (Memᴰ.not-nil k))

      after : (t : Bool) (x : Slot) → Memᴰ x (N ++ cond t F []) → tie n < tie x
      after true x m = ⊎_elim (c x) (d x) (Memᴰ.append_cases N m)
      after false x m = ⊎_elim (c x) (λ k. absurd (Memᴰ.not-nil k)) (Memᴰ.append_cases N m)

      first : (t : Bool) → Rising tie (N ++ cond (le pl (square r)) F []) → Rising tie (cond t (n ∷ []) [] ++ (N ++ cond (le pl (square r)) F []))
      first true h = (after (le pl (square r)), h)
      first false h = h

-- ---- numbered slots

-- the root has number s, the left part follows, then the right
unfoldable pub Numbered : ℕ → Part → Type 0
Numbered s empty = Unit {0}
Numbered s (split n l r) = (n.index ≡ s) × Numbered (suc s) l × Numbered (suc s + length (laid l)) r

module _ (q : Point3f) where
  turn-left : (axis : ℕ) (n : Slot) (l r : Part) (a : ℕ) → a < length (laid l) → turn q axis (split n l r) (suc a) ≡ suc (cond (goes_left q axis n) (turn q (next_axis axis) l a) (length (laid r) + turn q (next_axis axis) l a))
  unfolding turn
  turn-left axis n l r a h = rw (lt-ltb a (length (laid l)) h)

  turn-right : (axis : ℕ) (n : Slot) (l r : Part) (a : ℕ) → length (laid l) ≤ a
      → turn q axis (split n l r) (suc a) ≡ suc (cond (goes_left q axis n) (length (laid l) + turn q (next_axis axis) r (a - length (laid l))) (turn q (next_axis axis) r (a - length (laid l))))
  unfolding turn
  turn-right axis n l r a h = rw (le-ltb a (length (laid l)) h)

  pub turn-root : (axis : ℕ) (n : Slot) (l r : Part) → turn q axis (split n l r) 0 ≡ 0
  unfolding turn
  turn-root axis n l r = refl

  -- in the near part, and in the far part
  pub turn-near-left : (axis : ℕ) (n : Slot) (l r : Part) (a : ℕ) → goes_left q axis n ≡ true → a < length (laid l) → turn q axis (split n l r) (suc a) ≡ suc (turn q (next_axis axis) l a)
  turn-near-left axis n l r a e h = turn-left axis n l r a h ∙ rw e

  pub turn-far-left : (axis : ℕ) (n : Slot) (l r : Part) (a : ℕ) → goes_left q axis n ≡ false → a < length (laid l) → turn q axis (split n l r) (suc a) ≡ suc (length (laid r)) + turn q (next_axis axis) l a
  turn-far-left axis n l r a e h = turn-left axis n l r a h ∙ rw e (omega arith)

  pub turn-far-right : (axis : ℕ) (n : Slot) (l r : Part) (a : ℕ) → goes_left q axis n ≡ true → length (laid l) ≤ a
      → turn q axis (split n l r) (suc a) ≡ suc (length (laid l)) + turn q (next_axis axis) r (a - length (laid l))
  turn-far-right axis n l r a e h = turn-right axis n l r a h ∙ rw e (omega arith)

  pub turn-near-right : (axis : ℕ) (n : Slot) (l r : Part) (a : ℕ) → goes_left q axis n ≡ false → length (laid l) ≤ a
      → turn q axis (split n l r) (suc a) ≡ suc (turn q (next_axis axis) r (a - length (laid l)))
  turn-near-right axis n l r a e h = turn-right axis n l r a h ∙ rw e

  pub turn-bound : (axis : ℕ) (t : Part) (a : ℕ) → a < length (laid t) → turn q axis t a < length (laid t)
  unfolding laid turn
  turn-bound axis empty a h = absurd (omega arith)
  turn-bound axis (split n l r) zero h = omega arith
  turn-bound axis (split n l r) (suc a) h = go (goes_left q axis n) (ltb a (length (laid l))) refl (turn-bound (next_axis axis) l) (turn-bound (next_axis axis) r)
    where
      go : (c d : Bool) → ltb a (length (laid l)) ≡ d → ((b : ℕ) → b < length (laid l) → turn q (next_axis axis) l b < length (laid l)) → ((b : ℕ) → b < length (laid r) → turn q (next_axis axis) r b < length (laid r))
          → cond d (suc (cond c (turn q (next_axis axis) l a) (length (laid r) + turn q (next_axis axis) l a))) (suc (cond c (length (laid l) + turn q (next_axis axis) r (a - length (laid l))) (turn q (next_axis axis) r (a - length (laid l))))) < suc (length (laid l ++ laid r))
      go true true e hl hr = omega (arith, hl a (ltb-true a (length (laid l)) e), length-append (laid l) (laid r))
      go false true e hl hr = omega (arith, hl a (ltb-true a (length (laid l)) e), length-append (laid l) (laid r))
      go true false e hl hr = let g = ltb-false a (length (laid l)) e in let k = length-append (laid l) (laid r) in omega (arith, hr (a - length (laid l)) (omega arith))
      go false false e hl hr = let g = ltb-false a (length (laid l)) e in let k = length-append (laid l) (laid r) in omega (arith, hr (a - length (laid l)) (omega arith))

  module _ (rad : Float) where
    pub found-range : (axis s : ℕ) (t : Part) → Numbered s t → (x : Slot) → Memᴰ x (found rad q axis t) → (s ≤ x.index) × (x.index < s + length (laid t))
    unfolding found Numbered laid
    found-range axis s empty h x m = absurd (Memᴰ.not-nil m)
    found-range axis s (split n l r) h x m = go (goes_left q axis n) (found-range (next_axis axis) (suc s) l h.1 x) (found-range (next_axis axis) (suc s + length (laid l)) r h.2 x) m
      where
        k : length (laid l ++ laid r) ≡ length (laid l) + length (laid r)
        k = length-append (laid l) (laid r)

        here : x ≡ n → (s ≤ x.index) × (x.index < s + suc (length (laid l ++ laid r)))
        here e = let i : x.index ≡ s = ap (λ (u : Slot). u.index) e ∙ h.0 in (omega arith, omega arith)

        left : (suc s ≤ x.index) × (x.index < suc s + length (laid l)) → (s ≤ x.index) × (x.index < s + suc (length (laid l ++ laid r)))
        left u = (omega (arith, u.0), omega (arith, u.1, k))

        right : (suc s + length (laid l) ≤ x.index) × (x.index < suc s + length (laid l) + length (laid r)) → (s ≤ x.index) × (x.index < s + suc (length (laid l ++ laid r)))
        right u = (omega (arith, u.0), omega (arith, u.1, k))

        go : (c : Bool) → (Memᴰ x (found rad q (next_axis axis) l) → (suc s ≤ x.index) × (x.index < suc s + length (laid l)))
            → (Memᴰ x (found rad q (next_axis axis) r) → (suc s + length (laid l) ≤ x.index) × (x.index < suc s + length (laid l) + length (laid r)))
            → Memᴰ x (parts rad q (plane q axis n) n (cond c (found rad q (next_axis axis) l) (found rad q (next_axis axis) r)) (cond c (found rad q (next_axis axis) r) (found rad q (next_axis axis) l)))
            → (s ≤ x.index) × (x.index < s + suc (length (laid l ++ laid r)))
        go true a b i = parts-mem rad q (plane q axis n) n x (found rad q (next_axis axis) l) (found rad q (next_axis axis) r) i here (λ j. left (a j)) (λ j. right (b j))
        go false a b i = parts-mem rad q (plane q axis n) n x (found rad q (next_axis axis) r) (found rad q (next_axis axis) l) i here (λ j. right (b j)) (λ j. left (a j))

    pub found-rising : (axis s : ℕ) (t : Part) → Numbered s t → Rising (λ x. turn q axis t (x.index - s)) (found rad q axis t)
    unfolding found Numbered Rising
    found-rising axis s empty h = tt
    found-rising axis s (split n l r) h =
        go (goes_left q axis n) refl (found-rising (next_axis axis) (suc s) l h.1) (found-rising (next_axis axis) (suc s + length (laid l)) r h.2)
      where
        L : List Slot
        L = found rad q (next_axis axis) l

        R : List Slot
        R = found rad q (next_axis axis) r

        tie : Slot → ℕ
        tie x = turn q axis (split n l r) (x.index - s)

        tie_l : Slot → ℕ
        tie_l x = turn q (next_axis axis) l (x.index - suc s)

        tie_r : Slot → ℕ
        tie_r x = turn q (next_axis axis) r (x.index - (suc s + length (laid l)))

        root : tie n ≡ 0
        root = ap (turn q axis (split n l r)) none ∙ turn-root axis n l r
          where
            none : n.index - s ≡ 0
            none = omega (arith, h.0)

        in_l : (x : Slot) → Memᴰ x L → (suc s ≤ x.index) × (x.index < suc s + length (laid l))
        in_l x m = found-range (next_axis axis) (suc s) l h.1 x m

        in_r : (x : Slot) → Memᴰ x R → (suc s + length (laid l) ≤ x.index) × (x.index < suc s + length (laid l) + length (laid r))
        in_r x m = found-range (next_axis axis) (suc s + length (laid l)) r h.2 x m

        down : (x : Slot) → suc s ≤ x.index → x.index - s ≡ suc (x.index - suc s)
        down x u = omega arith

        bound_l : (x : Slot) → Memᴰ x L → tie_l x < length (laid l)
        bound_l x m = let u = in_l x m in turn-bound (next_axis axis) l (x.index - suc s) (omega (arith, u.0, u.1))

        bound_r : (x : Slot) → Memᴰ x R → tie_r x < length (laid r)
        bound_r x m = let u = in_r x m in turn-bound (next_axis axis) r (x.index - (suc s + length (laid l))) (omega (arith, u.0, u.1))

        at_left : (c : Bool) → goes_left q axis n ≡ c → (x : Slot) → Memᴰ x L → tie x ≡ cond c 1 (suc (length (laid r))) + tie_l x
        at_left true e x m = let u = in_l x m in ap (turn q axis (split n l r)) (down x u.0) ∙ turn-near-left axis n l r (x.index - suc s) e (omega (arith, u.0, u.1)) ∙ one_more (turn q (next_axis axis) l (x.index - suc s))
          where
            one_more : (k : ℕ) → suc k ≡ 1 + k
            one_more k = omega arith
        at_left false e x m = let u = in_l x m in ap (turn q axis (split n l r)) (down x u.0) ∙ turn-far-left axis n l r (x.index - suc s) e (omega (arith, u.0, u.1))

        over : (x : Slot) → suc s + length (laid l) ≤ x.index → x.index - suc s - length (laid l) ≡ x.index - (suc s + length (laid l))
        over x u = omega arith

        at_right : (c : Bool) → goes_left q axis n ≡ c → (x : Slot) → Memᴰ x R → tie x ≡ cond c (suc (length (laid l))) 1 + tie_r x
        at_right true e x m =
            let u = in_r x m in
            ap (turn q axis (split n l r)) (down x (omega (arith, u.0)))
            ∙ turn-far-right axis n l r (x.index - suc s) e (omega (arith, u.0))
            ∙ ap (λ (a : ℕ). suc (length (laid l)) + turn q (next_axis axis) r a) (over x u.0)
        at_right false e x m =
            let u = in_r x m in
            ap (turn q axis (split n l r)) (down x (omega (arith, u.0)))
            ∙ turn-near-right axis n l r (x.index - suc s) e (omega (arith, u.0))
            ∙ ap (λ (a : ℕ). suc (turn q (next_axis axis) r a)) (over x u.0)
            ∙ one_more (turn q (next_axis axis) r (x.index - (suc s + length (laid l))))
          where
            one_more : (k : ℕ) → suc k ≡ 1 + k
            one_more k = omega arith

        go : (c : Bool) → goes_left q axis n ≡ c → Rising tie_l L → Rising tie_r R → Rising tie (parts rad q (plane q axis n) n (cond c L R) (cond c R L))
        go true e a b =
            parts-rising rad q tie (plane q axis n) n L R (rising-shift tie_l tie 1 L (at_left true e) a) (rising-shift tie_r tie (suc (length (laid l))) R (at_right true e) b)
            (λ x m. omega (arith, root, at_left true e x m))
            (λ x m. omega (arith, root, at_right true e x m))
            (λ x y m k. omega (arith, at_left true e x m, bound_l x m, at_right true e y k))
        go false e a b =
            parts-rising rad q tie (plane q axis n) n R L (rising-shift tie_r tie 1 R (at_right false e) b) (rising-shift tie_l tie (suc (length (laid r))) L (at_left false e) a)
            (λ x m. omega (arith, root, at_right false e x m))
            (λ x m. omega (arith, root, at_left false e x m))
            (λ x y m k. omega (arith, at_right false e x m, bound_r x m, at_left false e y k))
