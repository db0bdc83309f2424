-- What the tests of the code say of a value and of its bits: whether it is a NaN, and that any other value's bits are at most infinity's. Assumes nothing.
use Rattle.std.proofs.Common.{◌≡◌, ℕ, ◌*◌, ◌%◌, ◌≤◌, Bool, true, false, not, T, sym, refl, ap, ◌∙◌, subst, true≢false, nltb→le}
use lib.Arith.{le→nltb}
use lib.Ieee.{Float, nan, inf, fin, Format, binary32, binary64, hid, ones, top, to_bits, of_bits, nan_bits, fits, is_nan, ne, div}
use lib.Ieee.Bits.{of_bits-to_bits, nan_bits_is, nan_bits_above}
use lib.Ieee.Compare.{differs_from_itself, nan_differs}

pub is-nan : (x : Float) → ne x x ≡ true → x ≡ nan
is-nan x e = differs_from_itself x (subst T (sym e) tt)

pub not-nan : (x : Float) → ne x x ≡ false → T (not (is_nan x))
unfolding is_nan
not-nan nan e = absurd (true≢false (sym nan_differs ∙ e))
not-nan (inf s) e = tt
not-nan (fin s m k) e = tt

pub no_nan : (f : Format) (b : ℕ) → b % top f ≤ ones f * hid f → T (not (nan_bits f b))
no_nan f b h = subst (λ (z : Bool). T (not z)) (sym (nan_bits_above f b)) (le→nltb (ones f * hid f) (b % top f) h)

pub number-bits : (f : Format) (x : Float) → T (fits f x) → T (not (is_nan x)) → to_bits f x % top f ≤ ones f * hid f
number-bits f x h n =
    let b = to_bits f x in
    nltb→le (ones f * hid f) (b % top f) (subst (λ (z : Bool). T (not z)) (sym (ap is_nan (of_bits-to_bits f x h)) ∙ sym (nan_bits_is f b) ∙ nan_bits_above f b) n)

-- 0 / 0, by which the code writes a NaN
pub no_number : (f : Format) → div f (of_bits f 0) (of_bits f 0) ≡ nan
unfolding div of_bits
no_number binary32 = refl
no_number binary64 = refl
