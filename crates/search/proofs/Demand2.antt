-- A look at every slot of a list gives the least distance strictly below the best, first in the list, or leaves the best; so the search meets demand 2 on the tree of a cloud.
-- Assumes nothing.
use mathlib.Core.Path.{◌≡◌, refl, sym, ap, ◌∙◌, subst}
use mathlib.Core.Logic.{◌⊎◌, inl, inr}
use mathlib.Core.Bool.{Bool, true, false, cond}
use mathlib.Core.List.Memᴰ
use mathlib.Core.List.{List, [], ◌∷◌, Memᴰ}
use Prim.Native.Nat.{ℕ, ◌^◌, ◌<◌}
use lib.Dec.{T}
use lib.ListN.{get_or}
use lib.Ieee.{Float, nan, binary32, fits, lt, le}
use lib.Ieee.Bits.{is_true}
use Rattle.bits.proofs.Compare.{lt_trans, le_lt_trans, le_of_lt, lt_irrefl, lt_not_le}
use Rattle.space.specs.declared.Point3f.{Point3f}
use Rattle.space.specs.Distance.{distance_squared}
use Rattle.space.proofs.Under.{Under, not-below}
use Rattle.tree.specs.Slots.{Slot}
use Rattle.tree.specs.Walk.{each}
use Rattle.tree.proofs.Walk.{Idle}
use Rattle.walk.proofs.Built.{built-walk}
use Rattle.search.specs.Search.{limit, first_best, visit, enters, walked, searched}
use Rattle.search.specs.Demands.{IsTree, near_first, NoneBelow, FirstLeast, LeastBelow, Demand2}
use Rattle.search.specs.declared.Nearest.{Nearest}
use Rattle.search.specs.declared.Nearest.TheVariants.{Found, Nothing}
use Rattle.search.proofs.Best.{is_T, no, yes-no}

-- ---- a look at every slot

module _ (q : Point3f) where
  -- r after a list, from what was held with distance l as best: nothing was below, or the first least
  abbrev After : List Slot → Float → Nearest → Nearest → Type 0
  After ns l held r = (NoneBelow q ns l × (r ≡ held)) ⊎ ((i : ℕ) × (d : Float) × (r ≡ Found i d) × FirstLeast q ns l i d)

  pub none_more : (n : Slot) (ns : List Slot) (l : Float) → lt (distance_squared q n.point) l ≡ false → NoneBelow q ns l → NoneBelow q (n ∷ ns) l
  none_more n ns l e h s (Memᴰ.head k) = rw k e
  none_more n ns l e h s (Memᴰ.tail m) = h s m

  first_more : (n : Slot) (b : List Slot) (d : Float) → le (distance_squared q n.point) d ≡ false → ((s : Slot) → Memᴰ s b → le (distance_squared q s.point) d ≡ false)
      → (s : Slot) → Memᴰ s (n ∷ b) → le (distance_squared q s.point) d ≡ false
  first_more n b d e h s (Memᴰ.head k) = rw k e
  first_more n b d e h s (Memᴰ.tail m) = h s m

  -- one more in front that is not as near
  later : (n : Slot) (ns : List Slot) (l k : Float) (i : ℕ) (d : Float) → le (distance_squared q n.point) d ≡ false → lt d k ≡ true → FirstLeast q ns l i d → FirstLeast q (n ∷ ns) k i d
  later n ns l k i d over under f =
      record {
        before = n ∷ f.before;
        found = f.found;
        after = f.after;
        in_order = ap (λ (r : List Slot). n ∷ r) f.in_order;
        index = f.index;
        distance = f.distance;
        below = under;
        least = none_more n ns d (no (lt (distance_squared q n.point) d) (λ t. yes-no (is_true (le (distance_squared q n.point) d) (le_of_lt (distance_squared q n.point) d t)) over)) f.least;
        first = first_more n f.before d over f.first;
      }

  -- the first one is the nearest
  at_once : (n : Slot) (ns : List Slot) (l : Float) → lt (distance_squared q n.point) l ≡ true → NoneBelow q ns (distance_squared q n.point) → FirstLeast q (n ∷ ns) l n.index (distance_squared q n.point)
  at_once n ns l under h =
      record {
        before = [];
        found = n;
        after = ns;
        in_order = refl;
        index = refl;
        distance = refl;
        below = under;
        least = none_more n ns (distance_squared q n.point) (no (lt (distance_squared q n.point) (distance_squared q n.point)) (lt_irrefl (distance_squared q n.point))) h;
        first = λ s m. absurd (Memᴰ.not-nil m);
      }

  module _ (bound : Float) where
    pub looked : (ns : List Slot) (held : Nearest) → After ns (limit bound held) held (each (visit q bound) ns held)
    unfolding each
    looked [] held = inl (λ s m. absurd (Memᴰ.not-nil m), refl)
    looked (n ∷ ns) held = go (lt (distance_squared q n.point) (limit bound held)) refl (looked ns (Found n.index (distance_squared q n.point))) (looked ns held)
      where
        d : Float
        d = distance_squared q n.point

        l : Float
        l = limit bound held

        not-nearer : lt d l ≡ false → After ns l held (each (visit q bound) ns held) → After (n ∷ ns) l held (each (visit q bound) ns held)
        not-nearer e (inl a) = inl (none_more n ns l e a.0, a.1)
        not-nearer e (inr a) =
            inr (
              a.0,
              a.1,
              a.2,
              later n ns l l a.0 a.1
                  (no (le d a.1) (λ t. yes-no (is_true (lt d l) (le_lt_trans d a.1 l t (is_T (lt a.1 l) a.3.below))) e)) a.3.below a.3,
            )

        nearer : lt d l ≡ true → (r : Nearest) → After ns d (Found n.index d) r → After (n ∷ ns) l held r
        nearer e r (inl a) = inr (n.index, d, a.1, at_once n ns l e a.0)
        nearer e r (inr a) =
            inr (
              a.0,
              a.1,
              a.2,
              later n ns d l a.0 a.1
                  (no (le d a.1) (λ t. lt_not_le a.1 d (is_T (lt a.1 d) a.3.below) t))
                  (is_true (lt a.1 l) (lt_trans a.1 d l (is_T (lt a.1 d) a.3.below) (is_T (lt d l) e))) a.3,
            )

        go : (c : Bool) → lt d l ≡ c → After ns d (Found n.index d) (each (visit q bound) ns (Found n.index d)) → After ns l held (each (visit q bound) ns held)
            → After (n ∷ ns) l held (each (visit q bound) ns (cond c (Found n.index d) held))
        go true e yes-rest no-rest = nearer e (each (visit q bound) ns (Found n.index d)) yes-rest
        go false e yes-rest no-rest = not-nearer e no-rest

    -- what that says of a first best
    least-below : (ns : List Slot) (r : Nearest) → After ns bound Nothing r → LeastBelow q ns bound r
    least-below ns r (inl a) = subst (LeastBelow q ns bound) (sym a.1) a.0
    least-below ns r (inr a) = subst (LeastBelow q ns bound) (sym a.2) a.3

    seed-stays : (ns : List Slot) (r : Nearest) (j : ℕ) (e : Float) → After ns e (Found j e) r → NoneBelow q ns e → r ≡ Found j e
    seed-stays ns r j e (inl a) none_below = a.1
    seed-stays ns r j e (inr a) none_below =
        let f = a.3 in
        absurd (yes-no (ap (λ (x : Float). lt x e) f.distance ∙ f.below)
        (none_below f.found (subst (Memᴰ f.found) (sym f.in_order) (Memᴰ.append_right f.before (Memᴰ.head refl)))))

    seed-gives-way : (ns : List Slot) (r : Nearest) (j : ℕ) (e : Float) → After ns e (Found j e) r
        → (s : Slot) → Memᴰ s ns → lt (distance_squared q s.point) e ≡ true → LeastBelow q ns e r
    seed-gives-way ns r j e (inl a) s m t = absurd (yes-no t (a.0 s m))
    seed-gives-way ns r j e (inr a) s m t = subst (LeastBelow q ns e) (sym a.2) a.3

    pub after-demand2 : (ns : List Slot) (seed r : Nearest) → After ns (limit bound (first_best bound seed)) (first_best bound seed) r → Demand2 q ns bound seed r
    after-demand2 ns seed r a =
        record {
          unseeded = λ e. least-below ns r (subst From e a);
          dropped = λ j x e f. least-below ns r (subst (Tested j x) f (subst From e a));
          stays = λ j x e t. seed-stays ns r j x (subst (Tested j x) t (subst From e a));
          gives_way = λ j x e t. seed-gives-way ns r j x (subst (Tested j x) t (subst From e a));
        }
      where
        From : Nearest → Type 0
        From s = After ns (limit bound (first_best bound s)) (first_best bound s) r

        Tested : ℕ → Float → Bool → Type 0
        Tested j x c = After ns (limit bound (cond c (Found j x) Nothing)) (cond c (Found j x) Nothing) r

-- ---- on the tree of a cloud

module _ (q : Point3f) (bound : Float) where
  -- a slot that is under no plane that is entered is not taken
  pub idle : (pl : Float) (n : Slot) → Under pl (distance_squared q n.point) → Idle (visit q bound) (enters bound) pl n
  idle pl n u s e = ap (λ (c : Bool). cond c (Found n.index (distance_squared q n.point)) s) (not-below pl (distance_squared q n.point) (limit bound s) u e)

  pub demand2 : (cloud coords : List Float) (indices : List ℕ) (seed : Nearest) → ((i : ℕ) → T (fits binary32 (get_or coords i nan))) → ((i : ℕ) → get_or indices i 0 < 2 ^ 32)
      → IsTree cloud coords indices → Demand2 q (near_first cloud q) bound seed (searched coords indices q bound seed)
  unfolding searched walked
  demand2 cloud coords indices seed f g e =
      subst (Demand2 q (near_first cloud q) bound seed)
      (sym (built-walk (visit q bound) (enters bound) q idle cloud coords indices f g e (first_best bound seed)))
      (after-demand2 q bound (near_first cloud q) seed (each (visit q bound) (near_first cloud q) (first_best bound seed)) (looked q bound (near_first cloud q) (first_best bound seed)))
