-- Document 01, "The matching program": from the bytes of standard input to the bytes of standard output. Definitions only.
use Rattle.std.specs.Prelude.{ℕ, List, [], ◌∷◌, ◌++◌, length, replicate, Float, None}
use Rattle.std.specs.Float.{binary32}
use Rattle.std.specs.Float.Ieee.{to_bits}
use Rattle.tree.specs.Refuse.{Outcome, refused, gives, count, no_match}
use Rattle.tree.specs.Slots.{numbers_of, indices_of}
use Rattle.tree.specs.Part.{laid}
use Rattle.tree.specs.Cloud.{tree_of}
use Rattle.matching.specs.Limit.{bound_of}
use Rattle.matching.specs.Matching.{match_all}
use Rattle.matching.specs.Pairs.{Pair, pairs}
use Rattle.sums.specs.Stats.{mse}
use Rattle.sums.specs.Sums.{sums}
use Rattle.scan.specs.declared.input.Counts.{Counts}
use Rattle.scan.specs.Input.{header, source_of, target_of}
use Rattle.text.specs.Text.{decimal, hex8}
use Rattle.scan.specs.Words.{pairs_word, mse_word, refused_word, blank, line_end}

-- "It matches without limit or seeds": the match list of the source in the tree of the target
unfoldable pub matches_of : List Float → List Float → List ℕ
unfolding tree_of laid numbers_of indices_of bound_of match_all
matches_of source target =
    let tree = laid (tree_of target) in
    match_all source target (numbers_of tree) (indices_of tree) (bound_of None) (replicate (count source) no_match)

-- `pairs N`
unfoldable pub count_line : ℕ → List ℕ
unfolding decimal
count_line n = pairs_word ++ decimal n ++ line_end

-- `source target`
unfoldable pub pair_line : ℕ → ℕ → List ℕ
unfolding decimal
pair_line i m = decimal i ++ blank ++ decimal m ++ line_end

unfoldable pub pair_lines : List Pair → List ℕ
unfolding pair_line
pair_lines [] = []
pair_lines (p ∷ ps) = pair_line p.source p.target ++ pair_lines ps

-- `mse` with the digits of the f32's bits; a NaN has the bits that `to_bits` gives it
unfoldable pub mse_line : Float → List ℕ
unfolding hex8 to_bits
mse_line x = mse_word ++ hex8 (to_bits binary32 x) ++ line_end

unfoldable pub report_lines : List Pair → Float → List ℕ
unfolding count_line pair_lines mse_line
report_lines found x = count_line (length found) ++ pair_lines found ++ mse_line x

-- the pairs and the MSE of a match list
unfoldable pub report : List Float → List Float → List ℕ → List ℕ
unfolding pairs sums mse report_lines
report source target matches = report_lines (pairs matches) (mse (sums source target matches))

-- "A refusal writes `refused 2` and the like, one line."
unfoldable pub refusal : ℕ → List ℕ
unfolding decimal
refusal n = refused_word ++ decimal n ++ line_end

unfoldable pub answered : List ℕ → Outcome Counts → List ℕ
unfolding refusal report matches_of
answered bytes (refused n) = refusal n
answered bytes (gives n) = let source = source_of bytes n in let target = target_of bytes n in report source target (matches_of source target)

unfoldable pub program : List ℕ → List ℕ
unfolding header answered
program bytes = answered bytes (header bytes)
