-- What the build is fixed by: where an index says which slot it is, `grow` depends on the slots alone, not on their order; a list that is parted around
-- its median grows by parts; and slots in the shape of their count that are in order at each node are the tree. Assumes nothing.
use mathlib.Core.Path.{◌≡◌, refl, sym, ap, ap₂, ◌∙◌, subst}
use mathlib.Core.List.{List, [], ◌∷◌, ◌++◌}
use mathlib.Core.List.Memᴰ
use mathlib.Core.List.{Memᴰ}
use mathlib.Core.List.Permᴰ
use mathlib.Core.List.{Permᴰ}
use Prim.Native.Nat.{ℕ, zero, suc, ◌-◌, ◌/◌, ◌^◌, ◌≤◌, ◌<◌}
use native.Mathlib.Nat.{not-suc-le-zero}
use native.Mathlib.Omega.{arith}
use lib.ListN.{length, get_or, take, drop, length-append, length-take, length-drop, take-append-drop}
use lib.Seq.{take_at, drop_at, get_or_at, append_snoc}
use Rattle.tree.specs.Slots.{Slot, none, rank}
use Rattle.tree.specs.Part.{Part, empty, split, part_of}
use Rattle.tree.specs.Sort.{sort}
use Rattle.tree.specs.Grow.{next_axis, grow}
use Rattle.tree.proofs.Step.{part_of-nil, part_of-step, median, lower, higher, grow-nil, grow-step}
use Rattle.tree.proofs.Rank.{rank-index}
use Rattle.tree.proofs.Perm.{perm-mem, perm-length, perm-of-eq}
use Rattle.tree.proofs.Sort.{sort-perm, sort-length, sort-split, sort-same, Apart}
use Rattle.tree.proofs.Ordered.{Ordered, lower-fits, higher-fits}
use Rattle.tree.proofs.Shape.{laid-part_of}

-- ---- what an index says

-- an index says which slot it is
pub record Known (l : List Slot) : Type 0 where
  pub small : (s : Slot) → Memᴰ s l → s.index < 2 ^ 32
  pub told : (s t : Slot) → Memᴰ s l → Memᴰ t l → s.index ≡ t.index → s ≡ t

pub known-sub : (l l' : List Slot) → ((s : Slot) → Memᴰ s l' → Memᴰ s l) → Known l → Known l'
known-sub l l' h k = record { small = λ s m. k.small s (h s m); told = λ s t m n. k.told s t (h s m) (h t n) }

pub known-perm : {l l' : List Slot} → Permᴰ l l' → Known l → Known l'
known-perm {l} {l'} p k = known-sub l l' (λ s m. perm-mem (Permᴰ.symm p) m) k

-- no two slots have one rank
pub ranks-apart : (axis : ℕ) (l : List Slot) → Known l → Apart (rank axis) l
ranks-apart axis l k s t m n e = k.told s t m n (rank-index axis s t (k.small s m) (k.small t n) e)

-- ---- the order of the slots does not count

-- ranked slots, cut at k
abbrev cut : ℕ → ℕ → List Slot → ℕ → Part
cut f axis ranked k = split (get_or ranked k none) (grow f (next_axis axis) (take k ranked)) (grow f (next_axis axis) (drop (suc k) ranked))

pub grow-same : (f axis : ℕ) {l l' : List Slot} → Permᴰ l l' → Known l → grow f axis l ≡ grow f axis l'
grow-same f axis {l} {l'} p k = go f l l' p k
  where
    none-grow : (u : List Slot) → grow zero axis u ≡ empty
    none-grow u = unfold grow in refl

    go : (g : ℕ) (u v : List Slot) → Permᴰ u v → Known u → grow g axis u ≡ grow g axis v
    go g [] [] d h = refl
    go g [] (y ∷ v) d h = absurd (omega (arith, perm-length d))
    go g (x ∷ u) [] d h = absurd (omega (arith, perm-length d))
    go zero (x ∷ u) (y ∷ v) d h = none-grow (x ∷ u) ∙ sym (none-grow (y ∷ v))
    go (suc g) (x ∷ u) (y ∷ v) d h =
        let e : length u / 2 ≡ length v / 2 = omega (arith, perm-length d) in
        grow-step g axis x u
        ∙ ap₂ (cut g axis) (sort-same (rank axis) d (ranks-apart axis (x ∷ u) h)) e
        ∙ sym (grow-step g axis y v)

-- ---- enough fuel is enough

pub grow-fuel : (f g axis : ℕ) (l : List Slot) → length l ≤ f → length l ≤ g → grow f axis l ≡ grow g axis l
grow-fuel zero g axis [] hf hg = grow-nil zero axis ∙ sym (grow-nil g axis)
grow-fuel zero g axis (x ∷ ss) hf hg = absurd (not-suc-le-zero hf)
grow-fuel (suc f) zero axis [] hf hg = grow-nil (suc f) axis ∙ sym (grow-nil zero axis)
grow-fuel (suc f) zero axis (x ∷ ss) hf hg = absurd (not-suc-le-zero hg)
grow-fuel (suc f) (suc g) axis [] hf hg = grow-nil (suc f) axis ∙ sym (grow-nil (suc g) axis)
grow-fuel (suc f) (suc g) axis (x ∷ ss) hf hg =
    grow-step f axis x ss
    ∙ ap₂ (split (median axis x ss))
    (grow-fuel f g (next_axis axis) (lower axis x ss) (lower-fits axis x ss f hf) (lower-fits axis x ss g hg))
    (grow-fuel f g (next_axis axis) (higher axis x ss) (higher-fits axis x ss f hf) (higher-fits axis x ss g hg))
    ∙ sym (grow-step g axis x ss)

-- ---- by parts

-- ranks that are known, with the median in the middle
grown : (f axis : ℕ) (o l : List Slot) (m : Slot) (r : List Slot) → sort (rank axis) o ≡ l ++ m ∷ r → length l ≡ (length o - 1) / 2
    → grow (suc f) axis o ≡ split m (grow f (next_axis axis) l) (grow f (next_axis axis) r)
grown f axis [] l m r e h = absurd (omega (arith, ap length e, sort-length (rank axis) [], length-append l (m ∷ r)))
grown f axis (x ∷ ss) l m r e h =
    grow-step f axis x ss
    ∙ ap (λ (u : List Slot). cut f axis u (length ss / 2)) e
    ∙ (λ t. split (root t) (grow f (next_axis axis) (left t)) (grow f (next_axis axis) (right t)))
  where
    half : length l ≡ length ss / 2
    half = omega arith

    root : get_or (l ++ m ∷ r) (length ss / 2) none ≡ m
    root = get_or_at l m r none (length ss / 2) half

    left : take (length ss / 2) (l ++ m ∷ r) ≡ l
    left = take_at l (m ∷ r) (length ss / 2) half

    right : drop (suc (length ss / 2)) (l ++ m ∷ r) ≡ r
    right =
        ap (λ (u : List Slot). drop (suc (length ss / 2)) u) (sym (append_snoc l m r))
        ∙ drop_at (l ++ (m ∷ [])) r (suc (length ss / 2)) (omega (arith, length-append l (m ∷ [])))

-- parted around the median, each part grown: the whole is grown
pub grow-parts : (f axis : ℕ) (o l : List Slot) (m : Slot) (r : List Slot) → Known o → Permᴰ o (l ++ m ∷ r)
    → ((s : Slot) → Memᴰ s l → rank axis s ≤ rank axis m) → ((t : Slot) → Memᴰ t r → rank axis m ≤ rank axis t)
    → length l ≡ (length o - 1) / 2 → grow (suc f) axis o ≡ split m (grow f (next_axis axis) l) (grow f (next_axis axis) r)
grow-parts f axis o l m r k p a b h =
    grown f axis o (sort (rank axis) l) m (sort (rank axis) r)
    (sort-same (rank axis) p (ranks-apart axis o k) ∙ sort-split (rank axis) l m r a b)
    (sort-length (rank axis) l ∙ h)
    ∙ ap₂ (λ (u v : Part). split m u v)
    (grow-same f (next_axis axis) (sort-perm (rank axis) l) (known-sub o (sort (rank axis) l) (λ s n. in_left s (perm-mem (sort-perm (rank axis) l) n)) k))
    (grow-same f (next_axis axis) (sort-perm (rank axis) r) (known-sub o (sort (rank axis) r) (λ s n. in_right s (perm-mem (sort-perm (rank axis) r) n)) k))
  where
    in_left : (s : Slot) → Memᴰ s l → Memᴰ s o
    in_left s n = perm-mem (Permᴰ.symm p) (Memᴰ.append_left (m ∷ r) n)

    in_right : (s : Slot) → Memᴰ s r → Memᴰ s o
    in_right s n = perm-mem (Permᴰ.symm p) (Memᴰ.append_right l (Memᴰ.tail n))

-- ---- what is in order is the tree

ordered-grows : (f axis : ℕ) (ss : List Slot) → length ss ≤ f → Known ss → Ordered axis (part_of f ss) → part_of f ss ≡ grow f axis ss
unfolding Ordered
ordered-grows zero axis [] h k o = part_of-nil zero ∙ sym (grow-nil zero axis)
ordered-grows zero axis (n ∷ ss) h k o = absurd (not-suc-le-zero h)
ordered-grows (suc f) axis [] h k o = part_of-nil (suc f) ∙ sym (grow-nil (suc f) axis)
ordered-grows (suc f) axis (n ∷ ss) h k ordered =
    let o : Ordered axis (split n (part_of f left) (part_of f right)) = subst (Ordered axis) (part_of-step f n ss) ordered in
    part_of-step f n ss
    ∙ ap₂ (split n)
    (ordered-grows f (next_axis axis) left left-fits (known-sub (n ∷ ss) left (λ s m. Memᴰ.tail (in_left s m)) k) o.2)
    (ordered-grows f (next_axis axis) right right-fits (known-sub (n ∷ ss) right (λ s m. Memᴰ.tail (in_right s m)) k) o.3)
    ∙ sym
    (grow-parts f axis (n ∷ ss) left n right k around
    (λ s m. o.0 s (subst (Memᴰ s) (sym (laid-part_of f left left-fits)) m))
    (λ t m. o.1 t (subst (Memᴰ t) (sym (laid-part_of f right right-fits)) m))
    (omega (arith, length-take (length ss / 2) ss)))
  where
    left : List Slot
    left = take (length ss / 2) ss

    right : List Slot
    right = drop (length ss / 2) ss

    left-fits : length left ≤ f
    left-fits = omega (arith, length-take (length ss / 2) ss)

    right-fits : length right ≤ f
    right-fits = omega (arith, length-drop (length ss / 2) ss)

    whole : left ++ right ≡ ss
    whole = take-append-drop (length ss / 2) ss

    in_left : (s : Slot) → Memᴰ s left → Memᴰ s ss
    in_left s m = subst (Memᴰ s) whole (Memᴰ.append_left right m)

    in_right : (s : Slot) → Memᴰ s right → Memᴰ s ss
    in_right s m = subst (Memᴰ s) whole (Memᴰ.append_right left m)

    around : Permᴰ (n ∷ ss) (left ++ n ∷ right)
    around = Permᴰ.trans (Permᴰ.cons refl (perm-of-eq (sym whole))) (Permᴰ.symm (Permᴰ.middle n left right))

-- Slots in the shape of their count, in order at each node, that are the slots of l in any order: they are the tree of l.
pub grow-unique : (f g axis : ℕ) (ss l : List Slot) → Permᴰ ss l → Known l → length l ≤ f → length l ≤ g → Ordered axis (part_of f ss)
    → part_of f ss ≡ grow g axis l
grow-unique f g axis ss l p k hf hg o =
    ordered-grows f axis ss (omega (arith, perm-length p)) (known-perm (Permᴰ.symm p) k) o
    ∙ grow-same f axis p (known-perm (Permᴰ.symm p) k)
    ∙ grow-fuel f g axis l hf hg
