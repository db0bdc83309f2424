-- Document 01, "The matching program": "Standard input: a header of counts and offsets, four u32 little-endian (source count, source offset, target count,
-- target offset), then the f32 numbers, source first." Definitions only.
use Rattle.std.specs.Prelude.{ℕ, zero, suc, ◌+◌, ◌*◌, ◌^◌, not, ◌||◌, List, [], ◌∷◌, ltb, eqb, length, get_or, Float}
use Rattle.std.specs.Float.{binary32}
use Rattle.std.specs.Float.Ieee.{of_bits}
use Rattle.tree.specs.Refuse.{Outcome, refuse, gives}
use Rattle.scan.specs.declared.input.Counts.{Counts}

-- the u32 whose four bytes begin at place i, the lowest first
unfoldable pub word : List ℕ → ℕ → ℕ
word bytes i = get_or bytes i 0 + 2 ^ 8 * get_or bytes (i + 1) 0 + 2 ^ 16 * get_or bytes (i + 2) 0 + 2 ^ 24 * get_or bytes (i + 3) 0

-- the n f32 numbers whose bytes begin at place i
unfoldable pub numbers : List ℕ → ℕ → ℕ → List Float
unfolding word
numbers bytes i zero = []
numbers bytes i (suc n) = of_bits binary32 (word bytes i) ∷ numbers bytes (i + 4) n

-- "a count over 1,024"
abbrev pub most_read : ℕ
most_read = 1024

-- "It checks in this order: header short, 1; a count over 1,024, 2; a zero count, 4; offsets other than 16 and 16 + 12·source count, or another total length, 1."
unfoldable pub header : List ℕ → Outcome Counts
unfolding word
header bytes =
    let sources = word bytes 0 in
    let source_at = word bytes 4 in
    let targets = word bytes 8 in
    let target_at = word bytes 12 in
    refuse 1 (ltb (length bytes) 16)
    (refuse 2 (ltb most_read sources || ltb most_read targets)
    (refuse 4 (eqb sources 0 || eqb targets 0)
    (refuse 1 (not (eqb source_at 16) || not (eqb target_at (16 + 12 * sources)) || not (eqb (length bytes) (16 + 12 * sources + 12 * targets)))
    (gives (record { source = sources; target = targets })))))

-- the numbers of the two clouds, behind the header
abbrev pub source_of : List ℕ → Counts → List Float
source_of bytes n = numbers bytes 16 (3 * n.source)

abbrev pub target_of : List ℕ → Counts → List Float
target_of bytes n = numbers bytes (16 + 12 * n.source) (3 * n.target)
