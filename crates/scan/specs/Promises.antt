-- What is known between the functions, and what the function promises; by `proofs/Determined.antt` that fixes its result and every lent byte. Definitions only.
use Rattle.std.specs.Prelude.{◌≡◌, ℕ, ◌+◌, ◌*◌, ◌≤◌, ◌<◌, List, [], ◌∷◌, length, take, replicate, Float}
use Rattle.tree.specs.Refuse.{count, no_match, overwrite}
use Rattle.matching.specs.Pairs.{Pair, pair}
use Rattle.scan.specs.declared.input.Counts.{Counts}
use Rattle.scan.specs.Input.{most_read}
use Rattle.scan.specs.Program.{program}

-- sources and targets, side by side
unfoldable pub side : List ℕ → List ℕ → List Pair
side [] ms = []
side (i ∷ is) [] = []
side (i ∷ is) (m ∷ ms) = pair i m ∷ side is ms

-- what the header's checks leave: both counts are from 1 to 1,024, and the input is as long as they say
pub record Counted (n : Counts) (bytes : ℕ) : Type 0 where
  pub some_sources : 0 < n.source
  pub few_sources : n.source ≤ most_read
  pub some_targets : 0 < n.target
  pub few_targets : n.target ≤ most_read
  pub whole : bytes ≡ 16 + 12 * n.source + 12 * n.target

-- two clouds, and one match entry for each source point
pub record Ready (source target : List Float) (matches : List ℕ) : Type 0 where
  pub each : length source ≡ 3 * length matches
  pub some_sources : 0 < length matches
  pub few_sources : length matches ≤ most_read
  pub whole : length target ≡ 3 * count target
  pub some_targets : 0 < count target
  pub few_targets : count target ≤ most_read

abbrev pub Unseeded : List ℕ → Type 0
Unseeded matches = matches ≡ replicate (length matches) no_match

-- `answer`: how many bytes it returns, and the lent bytes afterwards
pub record Answers (input out : List ℕ) (r : ℕ) (out' : List ℕ) : Type 0 where
  pub returns : r ≡ length (program input)
  pub written : out' ≡ overwrite (program input) out

-- `answer_read`: it answers what was read, and by that every input of which this is what fits into the lent bytes
pub record AnswersRead (bytes : List ℕ) (n : ℕ) (out : List ℕ) (r : ℕ) (out' : List ℕ) : Type 0 where
  pub front : Answers (take n bytes) out r out'
  pub whole : (input : List ℕ) → take n bytes ≡ take (length bytes) input → Answers input out r out'
