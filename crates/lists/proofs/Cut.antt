-- No more than the slots of a part can be taken from it, so that k counts only up to their number. Assumes nothing.
use mathlib.Core.Path.{◌≡◌, refl, sym, ap, ◌∙◌}
use mathlib.Core.Bool.{Bool, true, false, cond}
use mathlib.Core.List.{List, [], ◌∷◌, ◌++◌}
use Prim.Native.Nat.{ℕ, zero, suc, ◌+◌, ◌≤◌, ◌<◌}
use native.Mathlib.Nat.{le_of_suc-le-suc, not-suc-le-zero}
use native.Mathlib.Omega.{arith}
use lib.ListN.{length, take, length-append, length-take}
use lib.Seq.{take_all}
use lib.Ieee.{Float, lt}
use Rattle.bits.specs.Constants.{infinite}
use Rattle.space.specs.declared.Point3f.{Point3f}
use Rattle.tree.specs.Slots.{Slot}
use Rattle.tree.specs.Part.{Part, empty, split, laid}
use Rattle.tree.specs.Grow.{next_axis}
use Rattle.tree.specs.Walk.{walk}
use Rattle.tree.proofs.Walk.{goes_left, plane, entered}
use Rattle.lists.specs.Entry.{Entry, entry}
use Rattle.lists.specs.KNearest.{place, kth, offer, below_kth, k_nearest}

pub place-length : (e : Entry) (es : List Entry) → length (place e es) ≡ suc (length es)
unfolding place
place-length e [] = refl
place-length e (f ∷ es) = go (lt e.distance f.distance) (place-length e es)
  where
    go : (c : Bool) → length (place e es) ≡ suc (length es) → length (cond c (e ∷ f ∷ es) (f ∷ place e es)) ≡ suc (suc (length es))
    go true h = refl
    go false h = ap suc h

-- "infinity while fewer are held"
pub kth-open : (k : ℕ) (es : List Entry) → length es < k → kth k es ≡ infinite
unfolding kth
kth-open zero es h = absurd (not-suc-le-zero h)
kth-open (suc k) [] h = refl
kth-open (suc zero) (e ∷ es) h = absurd (omega arith)
kth-open (suc (suc k)) (e ∷ es) h = kth-open (suc k) es (le_of_suc-le-suc h)

module _ (q : Point3f) where
  abbrev W : ℕ → ℕ → Part → List Entry → List Entry
  W k axis t es = walk (offer k q) (below_kth k) q axis t es

  offer-open : (k : ℕ) (n : Slot) (es : List Entry) → length es < k → offer k q n es ≡ cond (lt (entry q n).distance infinite) (place (entry q n) es) es
  unfolding offer
  offer-open k n es h = rw (kth-open k es h, take_all k (place (entry q n) es) (omega (arith, place-length (entry q n) es)))

  offer-length : (k : ℕ) (n : Slot) (es : List Entry) → length (offer k q n es) ≤ suc (length es)
  unfolding offer
  offer-length k n es = go (lt (entry q n).distance (kth k es))
    where
      go : (c : Bool) → length (cond c (take k (place (entry q n) es)) es) ≤ suc (length es)
      go true = omega (arith, length-take k (place (entry q n) es), place-length (entry q n) es)
      go false = omega arith

  walk-length : (k axis : ℕ) (t : Part) (es : List Entry) → length (W k axis t es) ≤ length es + length (laid t)
  unfolding walk laid
  walk-length k axis empty es = omega arith
  walk-length k axis (split n l r) es = go (goes_left q axis n) (walk-length k (next_axis axis) l) (walk-length k (next_axis axis) r)
    where
      left : List Entry → List Entry
      left = walk (offer k q) (below_kth k) q (next_axis axis) l

      right : List Entry → List Entry
      right = walk (offer k q) (below_kth k) q (next_axis axis) r

      both : (near far : List Entry → List Entry) (N F : ℕ) → ((u : List Entry) → length (near u) ≤ length u + N) → ((u : List Entry) → length (far u) ≤ length u + F)
          → length (entered (offer k q) (below_kth k) (plane q axis n) far (near (offer k q n es))) ≤ suc (length es) + N + F
      both near far N F hn hf = pick (below_kth k (plane q axis n) (near (offer k q n es)))
        where
          pick : (c : Bool) → length (cond c (far (near (offer k q n es))) (near (offer k q n es))) ≤ suc (length es) + N + F
          pick true = omega (arith, hf (near (offer k q n es)), hn (offer k q n es), offer-length k n es)
          pick false = omega (arith, hn (offer k q n es), offer-length k n es)

      go : (c : Bool) → ((u : List Entry) → length (left u) ≤ length u + length (laid l)) → ((u : List Entry) → length (right u) ≤ length u + length (laid r))
          → length (entered (offer k q) (below_kth k) (plane q axis n) (cond c right left) (cond c left right (offer k q n es))) ≤ length es + suc (length (laid l ++ laid r))
      go true hl hr = omega (arith, both left right (length (laid l)) (length (laid r)) hl hr, length-append (laid l) (laid r))
      go false hl hr = omega (arith, both right left (length (laid r)) (length (laid l)) hr hl, length-append (laid l) (laid r))

  -- a part with no slots
  nothing : (k axis : ℕ) (t : Part) → length (laid t) ≡ 0 → (es : List Entry) → W k axis t es ≡ es
  unfolding walk laid
  nothing k axis empty e es = refl
  nothing k axis (split n l r) e es = absurd (omega arith)

  module _ (k j : ℕ) where
    same-open : (pl : Float) (es : List Entry) → length es < k → length es < j → below_kth k pl es ≡ below_kth j pl es
    unfolding below_kth
    same-open pl es a b = ap (lt pl) (kth-open k es a ∙ sym (kth-open j es b))

    joined : (pl : Float) (near far near' far' : List Entry → List Entry) (F : ℕ) (u : List Entry) → near u ≡ near' u → length (near u) + F ≤ k → length (near u) + F ≤ j
        → far (near u) ≡ far' (near u) → (F ≡ 0 → far (near u) ≡ near u)
        → entered (offer k q) (below_kth k) pl far (near u) ≡ entered (offer j q) (below_kth j) pl far' (near' u)
    joined pl near far near' far' F u hn a b hf none = rw (← hn) (go F refl)
      where
        v : List Entry
        v = near u

        pick : (c : Bool) → cond c (far v) v ≡ cond c (far' v) v
        pick true = hf
        pick false = refl

        idle : (c d : Bool) → far v ≡ v → far' v ≡ v → cond c (far v) v ≡ cond d (far' v) v
        idle true true x y = hf
        idle true false x y = x
        idle false true x y = sym y
        idle false false x y = refl

        go : (f : ℕ) → F ≡ f → cond (below_kth k pl v) (far v) v ≡ cond (below_kth j pl v) (far' v) v
        go zero e = idle (below_kth k pl v) (below_kth j pl v) (none e) (sym hf ∙ none e)
        go (suc f) e = pick (below_kth k pl v) ∙ ap (λ (c : Bool). cond c (far' v) v) (same-open pl v (omega arith) (omega arith))

    pub cut : (axis : ℕ) (t : Part) (es : List Entry) → length es + length (laid t) ≤ k → length es + length (laid t) ≤ j → W k axis t es ≡ W j axis t es
    unfolding walk laid
    cut axis empty es a b = refl
    cut axis (split n l r) es a b =
        ap (λ (u : List Entry). entered (offer k q) (below_kth k) (plane q axis n) (cond (goes_left q axis n) right left) (cond (goes_left q axis n) left right u)) first
        ∙ go (goes_left q axis n) (λ u. cut (next_axis axis) l u) (λ u. cut (next_axis axis) r u)
      where
        left : List Entry → List Entry
        left = walk (offer k q) (below_kth k) q (next_axis axis) l

        right : List Entry → List Entry
        right = walk (offer k q) (below_kth k) q (next_axis axis) r

        left' : List Entry → List Entry
        left' = walk (offer j q) (below_kth j) q (next_axis axis) l

        right' : List Entry → List Entry
        right' = walk (offer j q) (below_kth j) q (next_axis axis) r

        v : List Entry
        v = offer j q n es

        first : offer k q n es ≡ v
        first = offer-open k n es (omega arith) ∙ sym (offer-open j n es (omega arith))

        short : length v + (length (laid l) + length (laid r)) ≤ length es + suc (length (laid l ++ laid r))
        short = omega (arith, offer-length j n es, length-append (laid l) (laid r))

        go : (c : Bool) → ((u : List Entry) → length u + length (laid l) ≤ k → length u + length (laid l) ≤ j → left u ≡ left' u)
            → ((u : List Entry) → length u + length (laid r) ≤ k → length u + length (laid r) ≤ j → right u ≡ right' u)
            → entered (offer k q) (below_kth k) (plane q axis n) (cond c right left) (cond c left right v) ≡ entered (offer j q) (below_kth j) (plane q axis n) (cond c right' left') (cond c left' right' v)
        go true hl hr =
            let w = walk-length k (next_axis axis) l v in
            joined (plane q axis n) left right left' right' (length (laid r)) v (hl v (omega (arith, short)) (omega (arith, short))) (omega (arith, short, w)) (omega (arith, short, w))
            (hr (left v) (omega (arith, short, w)) (omega (arith, short, w))) (λ e. nothing k (next_axis axis) r e (left v))
        go false hl hr =
            let w = walk-length k (next_axis axis) r v in
            joined (plane q axis n) right left right' left' (length (laid l)) v (hr v (omega (arith, short)) (omega (arith, short))) (omega (arith, short, w)) (omega (arith, short, w))
            (hl (right v) (omega (arith, short, w)) (omega (arith, short, w))) (λ e. nothing k (next_axis axis) l e (right v))

  -- a k beyond the number of slots says no more than that number
  pub k-cut : (k : ℕ) (t : Part) → length (laid t) ≤ k → k_nearest q k t ≡ k_nearest q (length (laid t)) t
  unfolding k_nearest
  k-cut k t h = cut k (length (laid t)) 0 t [] (omega arith) (omega arith)
