-- `Within k n a`: the number n is a, but for k factors that each lie between 1 - 2 ^ -24 and 1 + 2 ^ -24, multiplied out. Nothing here is about floats.
use mathlib.Core.Path.{◌≡◌, refl, sym, ap, ◌∙◌}
use Prim.Native.Nat.{ℕ, ◌+◌, ◌*◌, ◌^◌, ◌≤◌, ◌<◌}
use native.Mathlib.Nat.{le_trans, le_of_eq, mul_assoc, mul_right_comm, add-mul, add-le-add, mul-le-mul, mul-le-mul_left, mul-le-mul_right, le_of_mul-le-mul_right, mul-mul-mul_comm, one-le-pow}
use lib.Dec.{T, leb, leb→le, lit≤, lit<}
use lib.Pow.{pow-add}

abbrev pub mid : ℕ
mid = 16777216

abbrev pub lo : ℕ
lo = 16777215

abbrev pub hi : ℕ
hi = 16777217

abbrev pub Within : ℕ → ℕ → ℕ → Type 0
Within k n a = (a * lo ^ k ≤ n * mid ^ k) × (n * mid ^ k ≤ a * hi ^ k)

pub within-self : (n : ℕ) → Within 0 n n
within-self n = (le_of_eq refl, le_of_eq refl)

-- a product
mul-pow : (a b c j k : ℕ) → a * b * c ^ (j + k) ≡ a * c ^ j * (b * c ^ k)
mul-pow a b c j k = ap (λ (x : ℕ). a * b * x) (pow-add c j k) ∙ mul-mul-mul_comm a b (c ^ j) (c ^ k)

pub within-mul : (j k n m a b : ℕ) → Within j n a → Within k m b → Within (j + k) (n * m) (a * b)
within-mul j k n m a b h g = (
  le_trans (le_of_eq (mul-pow a b lo j k)) (le_trans (mul-le-mul h.0 g.0) (le_of_eq (sym (mul-pow n m mid j k)))),
  le_trans (le_of_eq (mul-pow n m mid j k)) (le_trans (mul-le-mul h.1 g.1) (le_of_eq (sym (mul-pow a b hi j k)))),
)

-- a sum
pub within-add : (k n m a b : ℕ) → Within k n a → Within k m b → Within k (n + m) (a + b)
within-add k n m a b h g = (
  le_trans (le_of_eq (add-mul a b (lo ^ k))) (le_trans (add-le-add h.0 g.0) (le_of_eq (sym (add-mul n m (mid ^ k))))),
  le_trans (le_of_eq (add-mul n m (mid ^ k))) (le_trans (add-le-add h.1 g.1) (le_of_eq (sym (add-mul a b (hi ^ k))))),
)

-- one after the other
split : (a c j k : ℕ) → a * c ^ (j + k) ≡ a * c ^ j * c ^ k
split a c j k = ap (λ (x : ℕ). a * x) (pow-add c j k) ∙ sym (mul_assoc a (c ^ j) (c ^ k))

pub within-trans : (j k n m a : ℕ) → Within j n a → Within k m n → Within (j + k) m a
within-trans j k n m a h g = (
  le_trans (le_of_eq (split a lo j k))
      (le_trans (mul-le-mul_right (lo ^ k) h.0)
      (le_trans (le_of_eq (mul_right_comm n (mid ^ j) (lo ^ k)))
      (le_trans (mul-le-mul_right (mid ^ j) g.0)
      (le_of_eq (mul_right_comm m (mid ^ k) (mid ^ j) ∙ sym (split m mid j k)))))),
  le_trans (le_of_eq (split m mid j k ∙ mul_right_comm m (mid ^ j) (mid ^ k)))
      (le_trans (mul-le-mul_right (mid ^ j) g.1)
      (le_trans (le_of_eq (mul_right_comm n (hi ^ k) (mid ^ j)))
      (le_trans (mul-le-mul_right (hi ^ k) h.1) (le_of_eq (sym (split a hi j k)))))),
)

-- one factor more
pub within_more : (k n a : ℕ) → Within k n a → Within (k + 1) n a
within_more k n a h = within-trans k 1 n n a h (mul-le-mul_left n (lit≤ tt), mul-le-mul_left n (lit≤ tt))

-- a common factor
pub within-cancel : (k n a c : ℕ) → 0 < c → Within k (n * c) (a * c) → Within k n a
within-cancel k n a c C h = (
  le_of_mul-le-mul_right (le_trans (le_of_eq (mul_right_comm a (lo ^ k) c)) (le_trans h.0 (le_of_eq (mul_right_comm n c (mid ^ k))))) C,
  le_of_mul-le-mul_right (le_trans (le_of_eq (mul_right_comm n (mid ^ k) c)) (le_trans h.1 (le_of_eq (mul_right_comm a c (hi ^ k))))) C,
)

-- k factors together are between a half and 2: a test, which few k pass that a proof here would ask about
abbrev pub few : ℕ → Type 0
few k = T (leb (mid ^ k) (2 * lo ^ k)) × T (leb (hi ^ k) (2 * mid ^ k))

pub within_low : (k n a : ℕ) → few k → Within k n a → a ≤ n * 2
within_low k n a w h =
    le_of_mul-le-mul_right
    (le_trans h.0 (le_trans (mul-le-mul_left n (leb→le (mid ^ k) (2 * lo ^ k) w.0)) (le_of_eq (sym (mul_assoc n 2 (lo ^ k))))))
    (one-le-pow k lo (lit< tt))

pub within-high : (k n a : ℕ) → few k → Within k n a → n ≤ a * 2
within-high k n a w h =
    le_of_mul-le-mul_right
    (le_trans h.1 (le_trans (mul-le-mul_left a (leb→le (hi ^ k) (2 * mid ^ k) w.1)) (le_of_eq (sym (mul_assoc a 2 (mid ^ k))))))
    (one-le-pow k mid (lit< tt))

-- two numbers in order: what they stand for is in order but for the factors of both
pub within-order : (k n a m b : ℕ) → Within k n a → Within k m b → n ≤ m → a * lo ^ k ≤ b * hi ^ k
within-order k n a m b h g l = le_trans h.0 (le_trans (mul-le-mul_right (mid ^ k) l) g.1)

-- with five factors each: one part in 2 ^ 20
pub within-five : (a b : ℕ) → a * lo ^ 5 ≤ b * hi ^ 5 → a * 1048576 ≤ b * 1048577
within-five a b h =
    le_of_mul-le-mul_right
    (le_trans (le_of_eq (mul_right_comm a 1048576 (lo ^ 5)))
    (le_trans (mul-le-mul_right 1048576 h)
    (le_trans (le_of_eq (mul_assoc b (hi ^ 5) 1048576))
    (le_trans (mul-le-mul_left b (lit≤ tt)) (le_of_eq (sym (mul_assoc b 1048577 (lo ^ 5))))))))
    (one-le-pow 5 lo (lit< tt))
