-- The law that the build goes by: parted around the median, the median in front, each part built, the whole is built. Assumes nothing.
use mathlib.Core.Path.{◌≡◌, refl, sym, ap, ap₂, ◌∙◌, subst}
use mathlib.Core.List.{List, [], ◌∷◌, ◌++◌, append-nil}
use mathlib.Core.List.Memᴰ
use mathlib.Core.List.{Memᴰ}
use mathlib.Core.List.Permᴰ
use mathlib.Core.List.{Permᴰ}
use Prim.Native.Nat.{ℕ, zero, suc, ◌+◌, ◌-◌, ◌/◌, ◌≤◌, ◌<◌}
use native.Mathlib.Nat.{le_of_suc-le-suc, not-suc-le-zero}
use native.Mathlib.Omega.{arith}
use lib.ListN.{length, get_or, take, drop, length-append, length-drop, length-map}
use lib.Seq.{take_at, drop_at, split_at, drop-cons, take-suc, take-suc-set, drop-set-lt, length-take-le, drop-drop, take_all, drop-length}
use lib.Ieee.{Float}
use borrow.Rule.Slice.PartMut.{mid_of, put_mid}
use Rattle.tree.specs.Slots.{Slot, rank}
use Rattle.tree.specs.Sort.{sort, insert}
use Rattle.tree.specs.Part.{Part, split, laid}
use Rattle.tree.specs.Grow.{grow, next_axis}
use Rattle.tree.proofs.Perm.{swapped, swapped-length, perm-length, perm-mem, perm-of-eq}
use Rattle.tree.proofs.Step.{grow-nil}
use Rattle.tree.proofs.Grow.{grow-same, grow-parts}
use Rattle.select.specs.Order.{slot_of, slots_of, rank_of, Inside, Cut, Parted}
use Rattle.select.proofs.Order.{inside-sub, inside-perm, inside-known, in_take, in-drop, slots_of-mem, slots_of-perm, slots_of-append}

-- ---- a group of one, or of none

pub grow-few : (cloud : List Float) (f axis : ℕ) (is : List ℕ) → length is < 2 → length is ≤ f → slots_of cloud is ≡ laid (grow f axis (slots_of cloud is))
unfolding laid grow sort insert
grow-few cloud zero axis [] h k = refl
grow-few cloud (suc f) axis [] h k = refl
grow-few cloud zero axis (i ∷ is) h k = absurd (not-suc-le-zero k)
grow-few cloud (suc f) axis (i ∷ []) h k =
    sym (ap₂ (λ (u v : Part). slot_of cloud i ∷ laid u ++ laid v) (grow-nil f (next_axis axis)) (grow-nil f (next_axis axis)))
grow-few cloud (suc f) axis (i ∷ j ∷ is) h k = absurd (omega arith)

-- ---- the median goes to the front

swapped_head : (l : List ℕ) (r : ℕ) → r < length l → take 1 (swapped 0 l 0 r) ≡ get_or l r 0 ∷ []
swapped_head [] r h = absurd (not-suc-le-zero h)
swapped_head (x ∷ l) zero h = refl
swapped_head (x ∷ l) (suc r) h = refl

swapped-left : (l : List ℕ) (r : ℕ) → r < length l → Permᴰ (take r (drop 1 (swapped 0 l 0 r))) (take r l)
swapped-left [] r h = absurd (not-suc-le-zero h)
swapped-left (x ∷ l) zero h = Permᴰ.refl []
swapped-left (x ∷ l) (suc r) h =
    Permᴰ.trans (perm-of-eq (take-suc-set l r x (le_of_suc-le-suc h)))
    (Permᴰ.trans (Permᴰ.middle x (take r l) []) (Permᴰ.cons refl (Permᴰ.append-nil (take r l))))

swapped-right : (l : List ℕ) (r : ℕ) → r < length l → drop r (drop 1 (swapped 0 l 0 r)) ≡ drop (suc r) l
swapped-right [] r h = absurd (not-suc-le-zero h)
swapped-right (x ∷ l) zero h = refl
swapped-right (x ∷ l) (suc r) h = drop-set-lt (suc r) l r x (omega arith)

-- ---- the group: i1 is parted at the median, i2 has the median in front; j1 and j2 are what the two calls leave

module _ (cloud : List Float) (axis r b : ℕ) (is i1 i2 : List ℕ) (inside : Inside cloud is) (cut : Parted (rank_of cloud axis) r is i1)
    (swap : i2 ≡ swapped 0 i1 0 r) (mid : r ≡ (length is - 1) / 2) (b-is : b ≡ r + 1)
  where
    root : ℕ
    root = get_or i1 r 0

    abbrev left : List ℕ
    left = take r i1

    abbrev right : List ℕ
    right = drop (suc r) i1

    b-less : b - 1 ≡ r
    b-less = omega arith

    i1-long : length i1 ≡ length is
    i1-long = sym (perm-length cut.perm)

    i2-long : length i2 ≡ length is
    i2-long = ap length swap ∙ swapped-length 0 i1 0 r ∙ i1-long

    whole : i1 ≡ left ++ root ∷ right
    unfolding root
    whole = split_at i1 r 0 cut.within

    from-left : (i : ℕ) → Memᴰ i left → Memᴰ i is
    from-left i m = perm-mem (Permᴰ.symm cut.perm) (in_take r i1 m)

    from-right : (i : ℕ) → Memᴰ i right → Memᴰ i is
    from-right i m = perm-mem (Permᴰ.symm cut.perm) (in-drop (suc r) i1 m)

    -- the first part that is lent
    first-perm : Permᴰ (mid_of 1 (b - 1) i2) left
    first-perm =
        Permᴰ.trans (perm-of-eq (ap₂ (λ (n : ℕ) (u : List ℕ). take n (drop 1 u)) b-less swap)) (swapped-left i1 r cut.within)

    pub first-inside : Inside cloud (mid_of 1 (b - 1) i2)
    first-inside = inside-perm (Permᴰ.symm first-perm) (inside-sub from-left inside)

    left-long : length left ≡ r
    left-long = length-take-le r i1 (omega (arith, cut.within))

    pub first-less : length (mid_of 1 (b - 1) i2) < length is
    first-less = omega (arith, perm-length first-perm, left-long, cut.within, i1-long)

    right-long : length right ≡ length is - suc r
    right-long = length-drop (suc r) i1 ∙ ap (λ (n : ℕ). n - suc r) i1-long

    -- the tree of the group
    root_below : Memᴰ root (drop r i1)
    unfolding root
    root_below = rw (drop-cons i1 r 0 cut.within) (Memᴰ.head refl)

    root-above : Memᴰ root (take (suc r) i1)
    unfolding root
    root-above = rw (take-suc i1 r 0 cut.within) (Memᴰ.append_right (take r i1) (Memᴰ.head refl))

    tree : (f : ℕ) → grow (suc f) axis (slots_of cloud is)
        ≡ split (slot_of cloud root) (grow f (next_axis axis) (slots_of cloud left)) (grow f (next_axis axis) (slots_of cloud right))
    unfolding Cut
    tree f =
        grow-parts f axis (slots_of cloud is) (slots_of cloud left) (slot_of cloud root) (slots_of cloud right) (inside-known inside)
        (Permᴰ.trans (slots_of-perm cloud (Permᴰ.trans cut.perm (perm-of-eq whole))) (perm-of-eq (slots_of-append cloud left (root ∷ right))))
        (λ s m.
        let p = slots_of-mem cloud left s m in
        omega (arith, cut.below p.0 root p.1 root_below, ap (rank axis) p.2))
        (λ t m.
        let p = slots_of-mem cloud right t m in
        omega (arith, cut.above root p.0 root-above p.1, ap (rank axis) p.2))
        (length-map left (slot_of cloud) ∙ left-long ∙ mid ∙ ap (λ (n : ℕ). (n - 1) / 2) (sym (length-map is (slot_of cloud))))

    module _ (j1 : List ℕ) (j1-long : length j1 ≡ length (mid_of 1 (b - 1) i2)) where
      abbrev i3 : List ℕ
      i3 = put_mid 1 (b - 1) i2 j1

      j1-count : length j1 ≡ r
      j1-count = j1-long ∙ perm-length first-perm ∙ left-long

      i3-is : i3 ≡ (root ∷ j1) ++ right
      unfolding root
      i3-is =
          ap₂ (λ (n : ℕ) (u : List ℕ). take 1 u ++ (j1 ++ drop n (drop 1 u))) b-less swap
          ∙ ap₂ (λ (u v : List ℕ). u ++ (j1 ++ v)) (swapped_head i1 r cut.within) (swapped-right i1 r cut.within)

      i3-long : length i3 ≡ length is
      i3-long = ap length i3-is ∙ length-append (root ∷ j1) right ∙ omega (arith, j1-count, right-long, cut.within, i1-long)

      front_long : length (root ∷ j1) ≡ b
      front_long = omega (arith, j1-count)

      -- the second part that is lent
      second_is : mid_of b (length i3 - b) i3 ≡ right
      second_is =
          ap (λ (u : List ℕ). take (length i3 - b) u) (ap (drop b) i3-is ∙ drop_at (root ∷ j1) right b front_long)
          ∙ take_all (length i3 - b) right (omega (arith, right-long, i3-long))

      pub second-inside : Inside cloud (mid_of b (length i3 - b) i3)
      second-inside = subst (Inside cloud) (sym second_is) (inside-sub from-right inside)

      pub second-less : length (mid_of b (length i3 - b) i3) < length is
      second-less = omega (arith, ap length second_is, right-long, cut.within, i1-long)

      module _ (j2 : List ℕ) (j2-long : length j2 ≡ length (mid_of b (length i3 - b) i3)) where
        after : drop (length i3 - b) (drop b i3) ≡ []
        after =
            let e : b + (length i3 - b) ≡ length i3 = omega (arith, i3-long, cut.within, i1-long) in
            drop-drop (length i3 - b) b i3 ∙ ap (λ (n : ℕ). drop n i3) e ∙ drop-length i3

        i4-is : put_mid b (length i3 - b) i3 j2 ≡ (root ∷ j1) ++ (j2 ++ [])
        i4-is =
            ap₂ (λ (u v : List ℕ). u ++ (j2 ++ v)) (ap (take b) i3-is ∙ take_at (root ∷ j1) right b front_long) after

        i4-slots : slots_of cloud (put_mid b (length i3 - b) i3 j2) ≡ slot_of cloud root ∷ slots_of cloud j1 ++ slots_of cloud j2
        i4-slots =
            ap (slots_of cloud) (i4-is ∙ ap (λ (u : List ℕ). (root ∷ j1) ++ u) (append-nil j2)) ∙ slots_of-append cloud (root ∷ j1) j2

        built : (f : ℕ) → slots_of cloud j1 ≡ laid (grow f (next_axis axis) (slots_of cloud (mid_of 1 (b - 1) i2)))
            → slots_of cloud j2 ≡ laid (grow f (next_axis axis) (slots_of cloud (mid_of b (length i3 - b) i3)))
            → slots_of cloud (put_mid b (length i3 - b) i3 j2) ≡ laid (grow (suc f) axis (slots_of cloud is))
        unfolding laid
        built f e1 e2 =
            i4-slots
            ∙ ap₂ (λ (u v : List Slot). slot_of cloud root ∷ u ++ v)
            (e1 ∙ ap laid (grow-same f (next_axis axis) (slots_of-perm cloud first-perm) (inside-known first-inside)))
            (e2 ∙ ap (λ (u : List ℕ). laid (grow f (next_axis axis) (slots_of cloud u))) second_is)
            ∙ ap laid (sym (tree f))

        pub group-built : (f deeper : ℕ) → deeper ≡ next_axis axis → length is ≤ f
            → ((g : ℕ) → length (mid_of 1 (b - 1) i2) ≤ g → slots_of cloud j1 ≡ laid (grow g deeper (slots_of cloud (mid_of 1 (b - 1) i2))))
            → ((g : ℕ) → length (mid_of b (length i3 - b) i3) ≤ g → slots_of cloud j2 ≡ laid (grow g deeper (slots_of cloud (mid_of b (length i3 - b) i3))))
            → slots_of cloud (put_mid b (length i3 - b) i3 j2) ≡ laid (grow f axis (slots_of cloud is))
        group-built zero deeper e h h1 h2 = absurd (omega (arith, first-less))
        group-built (suc g) deeper e h h1 h2 =
            built g
            (h1 g (omega (arith, first-less)) ∙ ap (λ (n : ℕ). laid (grow g n (slots_of cloud (mid_of 1 (b - 1) i2)))) e)
            (h2 g (omega (arith, second-less)) ∙ ap (λ (n : ℕ). laid (grow g n (slots_of cloud (mid_of b (length i3 - b) i3)))) e)
