-- Numbers as text, in ASCII. Definitions only.
use Rattle.std.specs.Prelude.{ℕ, zero, suc, ◌+◌, ◌/◌, ◌%◌, cond, List, [], ◌∷◌, ◌++◌, ltb}

-- `0` to `9`, `a` to `f`
unfoldable pub letter : ℕ → ℕ
letter d = cond (ltb d 10) (48 + d) (87 + d)

-- the last k digits of n in base b, the highest first
unfoldable pub digits : ℕ → ℕ → ℕ → List ℕ
unfolding letter
digits b zero n = []
digits b (suc k) n = digits b k (n / b) ++ (letter (n % b) ∷ [])

-- how many decimal digits n has, where it has at most f + 1
unfoldable pub places : ℕ → ℕ → ℕ
places zero n = 1
places (suc f) n = let more = suc (places f (n / 10)) in cond (ltb n 10) 1 more

-- a number of at most ten digits, as every u32 is, without leading zeros
unfoldable pub decimal : ℕ → List ℕ
unfolding digits places
decimal n = digits 10 (places 9 n) n

-- the eight hexadecimal digits of a u32
unfoldable pub hex8 : ℕ → List ℕ
unfolding digits
hex8 n = digits 16 8 n
