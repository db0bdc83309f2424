-- The shape that counts give: slots laid out and read back, and a group of lent slots by its start and its count. Assumes nothing.
use mathlib.Core.Path.{◌≡◌, sym, ap, ap₂, ◌∙◌}
use mathlib.Core.List.{List, [], ◌∷◌, ◌++◌}
use Prim.Native.Nat.{ℕ, zero, suc, ◌+◌, ◌-◌, ◌/◌, ◌≤◌, ◌<◌}
use native.Mathlib.Nat.{not-suc-le-zero, le_of_suc-le-suc, sub-zero, suc-sub-suc}
use native.Mathlib.Numerals.{add-one}
use native.Mathlib.Omega.{arith}
use lib.ListN.{length, take, drop, get_or, length-append, length-take, length-drop, take-append-drop}
use lib.Seq.{take_all, take-nil, take_at, drop_at, drop-cons, take-take, drop-drop, length-take-le}
use Rattle.tree.specs.Slots.{Slot, rank}
use Rattle.tree.specs.Part.{Part, empty, split, laid, part_of}
use Rattle.tree.specs.Sort.{sort}
use Rattle.tree.specs.Grow.{next_axis, grow}
use Rattle.tree.proofs.Step.{part_of-nil, part_of-step, median, lower, higher, grow-nil, grow-step}
use Rattle.tree.proofs.Perm.{perm-length}
use Rattle.tree.proofs.Sort.{sort-length}
use Rattle.tree.proofs.Ordered.{lower-fits, higher-fits, laid-perm}

-- ---- enough fuel is enough

-- a part's two halves have fuel left
left-fits : (ss : List Slot) (f : ℕ) → length ss ≤ f → length (take (length ss / 2) ss) ≤ f
left-fits ss f h = omega (arith, length-take (length ss / 2) ss)

right-fits : (ss : List Slot) (f : ℕ) → length ss ≤ f → length (drop (length ss / 2) ss) ≤ f
right-fits ss f h = omega (arith, length-drop (length ss / 2) ss)

pub part_of-fuel : (f g : ℕ) (ss : List Slot) → length ss ≤ f → length ss ≤ g → part_of f ss ≡ part_of g ss
part_of-fuel zero g [] hf hg = part_of-nil zero ∙ sym (part_of-nil g)
part_of-fuel zero g (n ∷ ss) hf hg = absurd (not-suc-le-zero hf)
part_of-fuel (suc f) zero [] hf hg = part_of-nil (suc f) ∙ sym (part_of-nil zero)
part_of-fuel (suc f) zero (n ∷ ss) hf hg = absurd (not-suc-le-zero hg)
part_of-fuel (suc f) (suc g) [] hf hg = part_of-nil (suc f) ∙ sym (part_of-nil (suc g))
part_of-fuel (suc f) (suc g) (n ∷ ss) hf hg =
    part_of-step f n ss
    ∙ ap₂ (split n)
    (part_of-fuel f g (take (length ss / 2) ss) (left-fits ss f (le_of_suc-le-suc hf)) (left-fits ss g (le_of_suc-le-suc hg)))
    (part_of-fuel f g (drop (length ss / 2) ss) (right-fits ss f (le_of_suc-le-suc hf)) (right-fits ss g (le_of_suc-le-suc hg)))
    ∙ sym (part_of-step g n ss)

-- ---- laid out and read back

pub laid-part_of : (f : ℕ) (ss : List Slot) → length ss ≤ f → laid (part_of f ss) ≡ ss
unfolding laid
laid-part_of zero [] h = ap laid (part_of-nil zero)
laid-part_of zero (n ∷ ss) h = absurd (not-suc-le-zero h)
laid-part_of (suc f) [] h = ap laid (part_of-nil (suc f))
laid-part_of (suc f) (n ∷ ss) h =
    ap laid (part_of-step f n ss)
    ∙ ap₂ (λ (u v : List Slot). n ∷ u ++ v)
    (laid-part_of f (take (length ss / 2) ss) (left-fits ss f (le_of_suc-le-suc h)))
    (laid-part_of f (drop (length ss / 2) ss) (right-fits ss f (le_of_suc-le-suc h)))
    ∙ ap (λ (u : List Slot). n ∷ u) (take-append-drop (length ss / 2) ss)

-- a root and two parts, read from their slots
pub part_of-split : (f : ℕ) (n : Slot) (l r : List Slot) → length l ≡ (length l + length r) / 2 → part_of (suc f) (n ∷ l ++ r) ≡ split n (part_of f l) (part_of f r)
part_of-split f n l r h =
    part_of-step f n (l ++ r)
    ∙ ap₂ (λ (u v : List Slot). split n (part_of f u) (part_of f v)) (take_at l r (length (l ++ r) / 2) half) (drop_at l r (length (l ++ r) / 2) half)
  where
    half : length l ≡ length (l ++ r) / 2
    half = h ∙ ap (λ (k : ℕ). k / 2) (sym (length-append l r))

pub part_of-laid : (f g axis : ℕ) (l : List Slot) → length l ≤ f → length l ≤ g → part_of f (laid (grow g axis l)) ≡ grow g axis l
unfolding laid
part_of-laid zero g axis [] hf hg = rw (grow-nil g axis) (part_of-nil zero)
part_of-laid zero g axis (x ∷ ss) hf hg = absurd (not-suc-le-zero hf)
part_of-laid (suc f) zero axis [] hf hg = rw (grow-nil zero axis) (part_of-nil (suc f))
part_of-laid (suc f) zero axis (x ∷ ss) hf hg = absurd (not-suc-le-zero hg)
part_of-laid (suc f) (suc g) axis [] hf hg = rw (grow-nil (suc g) axis) (part_of-nil (suc f))
part_of-laid (suc f) (suc g) axis (x ∷ ss) hf hg =
    rw (grow-step g axis x ss)
    (part_of-split f (median axis x ss) (laid (grow g (next_axis axis) (lower axis x ss))) (laid (grow g (next_axis axis) (higher axis x ss))) half
    ∙ ap₂ (split (median axis x ss))
    (part_of-laid f g (next_axis axis) (lower axis x ss) (lower-fits axis x ss f hf) (lower-fits axis x ss g hg))
    (part_of-laid f g (next_axis axis) (higher axis x ss) (higher-fits axis x ss f hf) (higher-fits axis x ss g hg)))
  where
    n-lower : length (laid (grow g (next_axis axis) (lower axis x ss))) ≡ length ss / 2
    n-lower =
        perm-length (laid-perm g (next_axis axis) (lower axis x ss) (lower-fits axis x ss g hg))
        ∙ length-take-le (length ss / 2) (sort (rank axis) (x ∷ ss)) (omega (arith, sort-length (rank axis) (x ∷ ss)))

    n-higher : length (laid (grow g (next_axis axis) (higher axis x ss))) ≡ length ss - length ss / 2
    n-higher =
        perm-length (laid-perm g (next_axis axis) (higher axis x ss) (higher-fits axis x ss g hg))
        ∙ length-drop (suc (length ss / 2)) (sort (rank axis) (x ∷ ss))
        ∙ ap (λ (k : ℕ). k - suc (length ss / 2)) (sort-length (rank axis) (x ∷ ss))
        ∙ suc-sub-suc (length ss) (length ss / 2)

    half : length (laid (grow g (next_axis axis) (lower axis x ss)))
        ≡ (length (laid (grow g (next_axis axis) (lower axis x ss))) + length (laid (grow g (next_axis axis) (higher axis x ss)))) / 2
    half = omega (arith, n-lower, n-higher)

-- ---- a group of l slots that starts at s

pub drop-take {ℓ} : {A : Type ℓ} (m n : ℕ) (l : List A) → m ≤ n → drop m (take n l) ≡ take (n - m) (drop m l)
drop-take zero n l h = ap (λ k. take k l) (sym (sub-zero n))
drop-take (suc m) zero l h = absurd (not-suc-le-zero h)
drop-take (suc m) (suc n) [] h = sym (take-nil (suc n - suc m))
drop-take (suc m) (suc n) (x ∷ xs) h = drop-take m n xs (le_of_suc-le-suc h) ∙ ap (λ k. take k (drop m xs)) (sym (suc-sub-suc n m))

unfoldable pub group : List Slot → ℕ → ℕ → Part
group S s l = part_of l (take l (drop s S))

group-suc : (S : List Slot) (s l : ℕ) (d : Slot) → s + suc l ≤ length S
    → group S s (suc l) ≡ split (get_or S s d) (group S (suc s) (l / 2)) (group S (suc s + l / 2) (l - l / 2))
unfolding group
group-suc S s l d h =
    let R : List Slot = drop (suc s) S in
    let len_r : l ≤ length R = simp length-drop (omega arith) in
    let len_t : length (take l R) ≡ l = length-take-le l R len_r in
    let left : part_of l (take (length (take l R) / 2) (take l R)) ≡ group S (suc s) (l / 2) =
    rw (len_t, take-take (l / 2) l R (omega arith)) (part_of-fuel l (l / 2) (take (l / 2) R) (simp length-take (omega arith)) (simp length-take (omega arith))) in
    let right : part_of l (drop (length (take l R) / 2) (take l R)) ≡ group S (suc s + l / 2) (l - l / 2) =
    rw (len_t, drop-take (l / 2) l R (omega arith), drop-drop (l / 2) (suc s) S)
    (part_of-fuel l (l - l / 2) (take (l - l / 2) (drop (suc s + l / 2) S)) (simp length-take (omega arith)) (simp length-take (omega arith))) in
    ap (λ w. part_of (suc l) (take (suc l) w)) (drop-cons S s d (omega arith))
    ∙ part_of-step l (get_or S s d) (take l R)
    ∙ ap₂ (split (get_or S s d)) left right

-- the same in the code's terms
pub group-step : (S : List Slot) (s l : ℕ) (d : Slot) → 0 < l → s + l ≤ length S
    → group S s l ≡ split (get_or S s d) (group S (s + 1) ((l - 1) / 2)) (group S (s + 1 + (l - 1) / 2) (l - 1 - (l - 1) / 2))
group-step S s l d pos h =
    let e : l ≡ suc (l - 1) = omega arith in
    ap (group S s) e ∙ group-suc S s (l - 1) d (omega arith)
    ∙ ap (λ k. split (get_or S s d) (group S k ((l - 1) / 2)) (group S (k + (l - 1) / 2) (l - 1 - (l - 1) / 2))) (sym (add-one s))

pub group-zero : (S : List Slot) (s : ℕ) → group S s 0 ≡ empty
unfolding group
group-zero S s = part_of-nil 0

-- the whole
pub group-all : (S : List Slot) (m : ℕ) → length S ≡ m → group S 0 m ≡ part_of m S
unfolding group
group-all S m e = ap (part_of m) (take_all m S (omega arith))

-- its slots
pub laid-group : (S : List Slot) (s l : ℕ) → laid (group S s l) ≡ take l (drop s S)
unfolding group
laid-group S s l = laid-part_of l (take l (drop s S)) (omega (arith, length-take l (drop s S)))
