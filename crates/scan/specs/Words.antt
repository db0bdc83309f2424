-- Document 01, "The matching program": the words that are written, in ASCII. Definitions only.
use Rattle.std.specs.Prelude.{ℕ, List, [], ◌∷◌}

-- `pairs `, `mse ` and `refused `
abbrev pub pairs_word : List ℕ
pairs_word = 112 ∷ 97 ∷ 105 ∷ 114 ∷ 115 ∷ 32 ∷ []

abbrev pub mse_word : List ℕ
mse_word = 109 ∷ 115 ∷ 101 ∷ 32 ∷ []

abbrev pub refused_word : List ℕ
refused_word = 114 ∷ 101 ∷ 102 ∷ 117 ∷ 115 ∷ 101 ∷ 100 ∷ 32 ∷ []

-- a blank, and a line's end
abbrev pub blank : List ℕ
blank = 32 ∷ []

abbrev pub line_end : List ℕ
line_end = 10 ∷ []
