-- Document 01, "Matching, sums and frames": the pair list. Definitions only.
use Rattle.std.specs.Prelude.{ℕ, suc, ◌||◌, cond, List, [], ◌∷◌, map, eqb, length}
use Rattle.tree.specs.Refuse.{Outcome, gives, refuse, too_many, short, overwrite, no_match}

-- "source and target index of each matched entry"
pub record Pair : Type 0 where
  pub source : ℕ
  pub target : ℕ

abbrev pub pair : ℕ → ℕ → Pair
pair i m = record { source = i; target = m }

-- the pairs of entries, in source order; the first is entry i
unfoldable pub pairs_from : ℕ → List ℕ → List Pair
pairs_from i [] = []
pairs_from i (m ∷ ms) = let rest = pairs_from (suc i) ms in cond (eqb m no_match) rest (pair i m ∷ rest)

unfoldable pub pairs : List ℕ → List Pair
unfolding pairs_from
pairs matches = pairs_from 0 matches

abbrev pub sources_of : List Pair → List ℕ
sources_of ps = map (λ p. p.source) ps

abbrev pub targets_of : List Pair → List ℕ
targets_of ps = map (λ p. p.target) ps

-- what is returned, and what the two lent lists hold afterwards
pub record Written : Type 0 where
  pub number : ℕ
  pub sources : List ℕ
  pub targets : List ℕ

abbrev pub written : List Pair → List ℕ → List ℕ → Written
written ps sources targets = record {
  number = length ps;
  sources = overwrite (sources_of ps) sources;
  targets = overwrite (targets_of ps) targets;
}

-- "The pair list gives source and target index of each matched entry, in source order, and returns their number";
-- 3: "the pair list needs one entry per matched entry". No source is given, so that 1 can't be met.
unfoldable pub pairs_in : List ℕ → List ℕ → List ℕ → Outcome Written
unfolding pairs
pairs_in matches sources targets =
    let ps = pairs matches in
    refuse 2 (too_many (length matches)) (refuse 3 (short sources (length ps) || short targets (length ps)) (gives (written ps sources targets)))
