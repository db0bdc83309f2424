-- What a partial root says of the number whose root is taken. Definitions only.
use Rattle.std.specs.Prelude.{◌≡◌, ℕ, ◌+◌, ◌*◌, ◌^◌, ◌≤◌}
use Rattle.bits.specs.declared.root.Partial.{Partial}

-- the root's square, what is left, and what is ahead
abbrev pub number_of : Partial → ℕ
number_of p = (p.root * p.root + p.rest) * 2 ^ 64 + p.ahead

-- Of the number n this is the greatest root as far as the digits go.
pub record IsRootSoFar (n : ℕ) (p : Partial) : Type 0 where
  pub number : number_of p ≡ n
  pub largest : p.rest ≤ 2 * p.root
