-- Laws of numbers as text: digit by digit, and how long each text is.
use Prim.Native.Nat.{ℕ, zero, suc, ◌+◌, ◌-◌, ◌*◌, ◌/◌, ◌%◌, ◌^◌, ◌≤◌, ◌<◌}
use Rattle.std.proofs.Common.{Option, None, Some, IfNone, IfSome}
use Rattle.std.specs.Option.{unwrap_or}
use Rattle.std.proofs.Math.Nat.{pow-succ'}
use native.Mathlib.Omega.{arith}
use native.Mathlib.Numerals.{add-one}
use mathlib.Core.Path.{◌≡◌, refl, sym, ap, ◌∙◌}
use mathlib.Core.Bool.{Bool, true, false, cond}
use mathlib.Core.List.{List, [], ◌∷◌}
use lib.Dec.{ltb}
use lib.ListN.{length, set, length-append}
use lib.Seq.{sets}
use borrow.Author.Tests.{lt-ltb, le-ltb}
use Rattle.text.specs.Text.{letter, digits, places, decimal, hex8}
use Rattle.text.proofs.Stores.{sets_last}

-- ---- digits

pub digits-length : (b k n : ℕ) → length (digits b k n) ≡ k
unfolding digits
digits-length b zero n = refl
digits-length b (suc k) n = length-append (digits b k (n / b)) (letter (n % b) ∷ []) ∙ add-one (length (digits b k (n / b))) ∙ ap suc (digits-length b k (n / b))

pub digits-none : (b n : ℕ) → digits b 0 n ≡ []
unfolding digits
digits-none b n = refl

-- the last digit is written, then those before it
pub digits_last : (l : List ℕ) (b k n : ℕ) → 0 < k → sets (set l (k - 1) (letter (n % b))) 0 (digits b (k - 1) (n / b)) ≡ sets l 0 (digits b k n)
unfolding digits
digits_last l b zero n h = absurd (omega arith)
digits_last l b (suc k) n h =
    let e : suc k - 1 ≡ k = omega arith in
    let f : k ≡ 0 + length (digits b k (n / b)) = omega (arith, digits-length b k (n / b)) in
    ap (λ (j : ℕ). sets (set l j (letter (n % b))) 0 (digits b j (n / b))) e
    ∙ ap (λ (j : ℕ). sets (set l j (letter (n % b))) 0 (digits b k (n / b))) f
    ∙ sym (sets_last l 0 (digits b k (n / b)) (letter (n % b)))

-- ---- places

pub places-one : (f n : ℕ) → n < 10 → places f n ≡ 1
unfolding places
places-one zero n h = refl
places-one (suc f) n h = ap (λ (b : Bool). cond b 1 (suc (places f (n / 10)))) (lt-ltb _ _ h)

one-more : (k : ℕ) → 0 < 10 ^ k
one-more zero = omega arith
one-more (suc k) = omega (arith, pow-succ' 10 k, one-more k)

-- n has k + 1 digits where it is between powers of ten
places-between : (f k n : ℕ) → k ≤ f → 10 ^ k ≤ n → n < 10 * 10 ^ k → places f n ≡ suc k
unfolding places
places-between f zero n few low high = places-one f n (omega arith)
places-between zero (suc k) n few low high = absurd (omega arith)
places-between (suc f) (suc k) n few low high =
    let p : 10 ^ suc k ≡ 10 * 10 ^ k = pow-succ' 10 k in
    let two : 10 ≤ n = omega (arith, one-more k) in
    ap (λ (b : Bool). cond b 1 (suc (places f (n / 10)))) (le-ltb _ _ two) ∙ ap suc (places-between f k (n / 10) (omega arith) (omega arith) (omega arith))

-- and 0 has one
pub places-are : (n : ℕ) (r : Option ℕ) (k : ℕ) → IfNone r (n ≡ 0) → IfSome r (λ k. 10 ^ k ≤ n) → IfSome r (λ k. n < 10 * 10 ^ k) → IfSome r (λ k. k < 10) → k ≡ unwrap_or r 0
    → (k + 1 ≡ places 9 n) × (k + 1 ≤ 10)
places-are n None k none low high bound e = (omega (arith, places-one 9 n (omega arith)), omega arith)
places-are n (Some m) k none low high bound e = (omega (arith, places-between 9 m n (omega arith) low high), omega arith)

places-most : (f n : ℕ) → places f n ≤ suc f
unfolding places
places-most zero n = omega arith
places-most (suc f) n = go (ltb n 10) (places-most f (n / 10))
  where
    go : (b : Bool) → places f (n / 10) ≤ suc f → cond b 1 (suc (places f (n / 10))) ≤ suc (suc f)
    go true h = omega arith
    go false h = omega arith

-- ---- how long a text is

pub decimal-length : (n : ℕ) → length (decimal n) ≤ 10
unfolding decimal
decimal-length n = omega (arith, digits-length 10 (places 9 n) n, places-most 9 n)

pub hex8-length : (n : ℕ) → length (hex8 n) ≡ 8
unfolding hex8
hex8-length n = digits-length 16 8 n
