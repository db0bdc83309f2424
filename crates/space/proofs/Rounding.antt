-- `round`'s relative error in binary32: a fraction in the normal range rounds to a value within one part in 2 ^ 24 of it, and zero to zero. Values are counted in units of the smallest one, 2 ^ -149.
use mathlib.Core.Path.{◌≡◌, sym, ap, ◌∙◌, subst}
use mathlib.Core.Logic.{inl, inr}
use Prim.Native.Nat.{ℕ, suc, ◌+◌, ◌-◌, ◌*◌, ◌/◌, ◌%◌, ◌^◌, ◌≤◌, ◌<◌, zero-le, compare, Ordering}
use native.Mathlib.Nat.{eq_of_mul-eq-mul_right, le-mul_of_pos_right, le_trans, le_of_eq, lt_of_le_of_lt, zero-lt-suc, eq-zero-or-pos, zero-mul, one-mul, mul_comm, mul_assoc, mul_right_comm, add-mul, suc-mul, mul-le-mul_right, le_of_mul-le-mul_right, mul-pos, mod-lt, div-add-mod', le-div_iff_mul-le}
use native.Mathlib.Omega.{arith}
use mathlib.Core.Bool.{false, not}
use lib.Dec.{T, is_le, compare_is_eq, eqb, leb→le, nleb→lt, eqb→eq, eqb_refl, lit<}
use lib.Arith.{lt_of_le-ne}
use lib.Pow.{pow_pos, pow-add}
use lib.Ieee.{Float, nan, inf, fin, binary32, up, down, size, nearest, round}
use lib.Ieee.Digits.{size_reaches}
use lib.Ieee.Exact.{HasValue}
use lib.Ieee.Nearest.{closest}
use lib.Ieee.Order.{drop}
use lib.Ieee.Scale.{grid, round_val, normal_of_fraction}
use Rattle.space.proofs.Under.{round-zero}
use Rattle.space.proofs.Within.{mid, lo, Within, few, within-trans, within-cancel, within_low, within-high}

-- ---- the nearest whole number is off by a half at most
abbrev Cmp : Ordering → ℕ → ℕ → Type 0
Cmp Ordering.lt a b = a < b
Cmp Ordering.eq a b = a ≡ b
Cmp Ordering.gt a b = b < a

cmp : (a b : ℕ) → Cmp (compare a b) a b
cmp a b = go (compare a b) (leb→le a b) (nleb→lt a b) (eqb→eq a b) (λ (e : a ≡ b). subst (λ (x : ℕ). T (eqb a x)) e (eqb_refl a))
  where
    go : (o : Ordering) → (T (is_le o) → a ≤ b) → (T (not (is_le o)) → b < a) → (T (compare_is_eq o) → a ≡ b) → (a ≡ b → T (compare_is_eq o)) → Cmp o a b
    go Ordering.lt h k e n = lt_of_le-ne (h tt) n
    go Ordering.eq h k e n = e tt
    go Ordering.gt h k e n = k tt

abbrev Half : ℕ → ℕ → ℕ → Type 0
Half x n u = (x * 2 ≤ n * 2 + u) × (n * 2 ≤ x * 2 + u)

near : (w r u n : ℕ) (o : Ordering) → w * u + r ≡ n → r < u → Cmp o (r * 2) u → Half (nearest w o * u) n u
near w r u n Ordering.lt e l c = omega arith
near w r u n Ordering.eq e l c =
    let a : w % 2 * u ≤ 1 * u = mul-le-mul_right u (bit w) in
    let b : 1 * u ≡ u = one-mul u in
    let d : (w + w % 2) * u ≡ w * u + w % 2 * u = add-mul w (w % 2) u in
    (fst (w * u) (w % 2 * u) r u n ((w + w % 2) * u) (1 * u) a b d e c, snd (w * u) (w % 2 * u) r u n ((w + w % 2) * u) d e c)
  where
    bit : (x : ℕ) → x % 2 ≤ 1
    bit x = omega arith

    fst : (p z r u n x v : ℕ) → z ≤ v → v ≡ u → x ≡ p + z → p + r ≡ n → r * 2 ≡ u → x * 2 ≤ n * 2 + u
    fst p z r u n x v a b d e c = omega arith

    snd : (p z r u n x : ℕ) → x ≡ p + z → p + r ≡ n → r * 2 ≡ u → n * 2 ≤ x * 2 + u
    snd p z r u n x d e c = omega arith
near w r u n Ordering.gt e l c =
    let d : suc w * u ≡ w * u + u = suc-mul w u in
    omega arith

closest-near : (n u : ℕ) → 0 < u → Half (closest n u * u) n u
closest-near n u U = near (n / u) (n % u) u n (compare (n % u * 2) u) (div-add-mod' n u) (mod-lt n U) (cmp (n % u * 2) u)

-- ---- the grid's error
rel : (x n u : ℕ) → Half x n u → u * 8388608 ≤ n → Within 1 x n
rel x n u h g = omega arith

fits_in : (p z : ℕ) → 0 < p → p ≤ z → p - 1 + (z - p) < z
fits_in p z P h = omega arith

pub grid-near : (a c : ℕ) → 0 < c → 8388608 * c ≤ a * 2 ^ 149 → Within 1 (grid binary32 a c * c) (a * 2 ^ 149)
grid-near a c C h =
    let n = a * 2 ^ 149 in
    let k = drop 24 n c in
    let u = c * 2 ^ k in
    let N : 24 ≤ size (n / c) = normal_of_fraction binary32 a c C h in
    let r : 2 ^ (23 + k) * c ≤ n = (le-div_iff_mul-le C).0 (size_reaches (n / c) (23 + k) (fits_in 24 (size (n / c)) (zero-lt-suc 23) N)) in
    let e : u * 8388608 ≡ 2 ^ (23 + k) * c = mul_comm u 8388608 ∙ ap (λ (x : ℕ). 8388608 * x) (mul_comm c (2 ^ k)) ∙ sym (mul_assoc 8388608 (2 ^ k) c) ∙ ap (λ (x : ℕ). x * c) (sym (pow-add 2 23 k)) in
    let x : closest n u * 2 ^ k * c ≡ closest n u * u = mul_assoc (closest n u) (2 ^ k) c ∙ ap (λ (z : ℕ). closest n u * z) (mul_comm (2 ^ k) c) in
    subst (λ (z : ℕ). Within 1 z n) (sym x) (rel (closest n u * u) n u (closest-near n u (mul-pos C (pow_pos k))) (le_trans (le_of_eq e) r))

-- ---- one rounding more
zero-value : (x : Float) (a c l : ℕ) → 0 < c → a ≡ 0 → HasValue x false a c → HasValue x false 0 l
zero-value nan a c l C z h = h
zero-value (inf s) a c l C z h = h
zero-value (fin s m e) a c l C z h =
    let p : m * up e ≡ 0 = eq_of_mul-eq-mul_right c C (m * up e) 0 (h.1 ∙ ap (λ (x : ℕ). x * down e) z ∙ zero-mul (down e) ∙ sym (zero-mul c)) in
    (h.0, ap (λ (x : ℕ). x * l) p ∙ zero-mul l ∙ sym (zero-mul (down e)))

halve : (c L a x : ℕ) → 16777216 * c ≤ L → L ≤ x → x ≤ a * 2 → 8388608 * c ≤ a
halve c L a x h k l = omega arith

room : (g a x y v : ℕ) → g ≤ a * 2 → a ≤ x * 2 → x ≤ y → y * 2 ≤ v → g ≤ v * 2
room g a x y v h k l m = omega arith

-- a units over c, in which a is M * L but for k roundings, rounds to g units, for k + 1 roundings. M is 0, in which case nothing is rounded, or M * L is in the normal range and far from overflow
pub climb : (k a M L c B : ℕ) → few k → Within k a (M * L) → M ≤ B → 0 < c → 16777216 * c ≤ L → B * L * 2 ≤ 2 ^ 249 * c
    → (g : ℕ) × HasValue (round binary32 false a (c * 2 ^ 149)) false g (2 ^ 149) × Within (k + 1) (g * c) (M * L)
climb k a M L c B w h m C n o = elim (eq-zero-or-pos M) [ inl z ↦ nothing z | inr p ↦ something p ]
  where
    nothing : M ≡ 0 → (g : ℕ) × HasValue (round binary32 false a (c * 2 ^ 149)) false g (2 ^ 149) × Within (k + 1) (g * c) (M * L)
    nothing z =
        let e : M * L ≡ 0 = ap (λ (x : ℕ). x * L) z ∙ zero-mul L in
        let y : a ≤ M * L * 2 = within-high k a (M * L) w h in
        let i : a ≡ 0 = omega arith in (
          0,
          zero-value (round binary32 false a (c * 2 ^ 149)) a (c * 2 ^ 149) (2 ^ 149) (mul-pos C (pow_pos 149)) i (round-zero binary32 a (c * 2 ^ 149) i (mul-pos C (pow_pos 149))),
          subst (λ (x : ℕ). Within (k + 1) x (M * L)) (e ∙ sym (zero-mul c)) (subst (λ (x : ℕ). Within (k + 1) x x) (sym e) (le_trans (le_of_eq (zero-mul (lo ^ (k + 1)))) zero-le, le_trans (le_of_eq (zero-mul (mid ^ (k + 1)))) zero-le)),
        )

    something : 0 < M → (g : ℕ) × HasValue (round binary32 false a (c * 2 ^ 149)) false g (2 ^ 149) × Within (k + 1) (g * c) (M * L)
    something p =
        let g = grid binary32 a (c * 2 ^ 149) in
        let x : L ≤ M * L = le_trans (le-mul_of_pos_right L p) (le_of_eq (mul_comm L M)) in
        let q : 8388608 * c ≤ a = halve c L a (M * L) n x (within_low k a (M * L) w h) in
        let r : Within 1 (g * (c * 2 ^ 149)) (a * 2 ^ 149) = grid-near a (c * 2 ^ 149) (mul-pos C (pow_pos 149)) (le_trans (le_of_eq (sym (mul_assoc 8388608 c (2 ^ 149)))) (mul-le-mul_right (2 ^ 149) q)) in
        let v : Within 1 (g * c) a = within-cancel 1 (g * c) a (2 ^ 149) (pow_pos 149) (subst (λ (z : ℕ). Within 1 z (a * 2 ^ 149)) (sym (mul_assoc g c (2 ^ 149))) r) in
        let b : g * c ≤ 2 ^ 249 * c * 2 = room (g * c) a (M * L) (B * L) (2 ^ 249 * c) (within-high 1 (g * c) a (tt, tt) v) (within-high k a (M * L) w h) (mul-le-mul_right L m) o in
        let d : g ≤ 2 ^ 249 * 2 = le_of_mul-le-mul_right (le_trans b (le_of_eq (mul_right_comm (2 ^ 249) c 2))) C in
        (g, round_val binary32 a (c * 2 ^ 149) (lt_of_le_of_lt d (lit< tt)), within-trans k 1 a (g * c) (M * L) h v)
