-- The definitions of specs/ in the words of std's clauses. Assumes nothing.
use Rattle.std.proofs.Common.{◌≡◌, ℕ, zero, suc, ◌+◌, ◌-◌, ◌%◌, ◌<◌, true, false, T, sym, refl, ap, ◌∙◌, subst, arith}
use Rattle.std.proofs.lemmas.Bool.Decides.{nat_tests}
use Rattle.std.specs.Float as Std
use Rattle.std.specs.Float.{float_is_finite, next_up_by_bits}
use lib.Ieee.{Float, nan, inf, fin, binary32, fits, is_nan, to_bits, of_bits}
use lib.Ieee.Bits.{to_bits-lt}
use Rattle.bits.specs.Finite.{finite}
use Rattle.bits.specs.NextUp.{next_up}
use Rattle.bits.proofs.NextUp.{minus-bits, zero_bits, plus-bits, minus-over}

pub finite_is : (x : Float) → float_is_finite x ≡ finite x
unfolding float_is_finite finite
finite_is nan = refl
finite_is (inf s) = refl
finite_is (fin s m e) = refl

-- ---- next up, by the four arms of std's
up : (x : Float) (b : ℕ) → b < 2139095040 → next_up_by_bits binary32 x b ≡ of_bits binary32 (b + 1)
up x zero h = refl
up x (suc b) h = grind (arith, nat_tests)

over-zero : (x : Float) (b : ℕ) → b % 2147483648 ≡ 0 → next_up_by_bits binary32 x b ≡ of_bits binary32 1
over-zero x b h = grind (arith, nat_tests)

down : (x : Float) (b : ℕ) → 2147483648 < b → b < 4294967296 → next_up_by_bits binary32 x b ≡ of_bits binary32 (b - 1)
down x b h k = grind (arith, nat_tests)

same : (x : Float) → T (fits binary32 x) → Std.next_up binary32 x ≡ next_up x
unfolding next_up is_nan to_bits of_bits
same nan f = refl
same (inf true) f = refl
same (inf false) f = refl
same (fin false zero e) f = over-zero (fin false zero e) _ (ap (λ (b : ℕ). b % 2147483648) (zero_bits e))
same (fin true zero e) f = over-zero (fin true zero e) _ (ap (λ (b : ℕ). b % 2147483648) (minus-bits 0 e ∙ ap (λ (b : ℕ). 2147483648 + b) (zero_bits e)))
same (fin false (suc m) e) f = up (fin false (suc m) e) _ (plus-bits (suc m) e f)
same (fin true (suc m) e) f = down (fin true (suc m) e) _ (minus-over m e f) (to_bits-lt binary32 (fin true (suc m) e) f)

pub next_up_is : (x : Float) → fits binary32 x ≡ true → Std.next_up binary32 x ≡ next_up x
next_up_is x f = same x (subst T (sym f) tt)
