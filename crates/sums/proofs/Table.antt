-- A table over the definitions: the smallest inputs at which a wrong reading of document 01 gives other sums. Every row is by computation.
use mathlib.Core.Path.{◌≡◌, refl, ap, ap₂, ◌∙◌}
use mathlib.Core.List.{List, [], ◌∷◌, ◌++◌}
use mathlib.Core.Bool.{true, false, ◌||◌}
use Prim.Native.Nat.{ℕ, ◌*◌}
use lib.IntN.{pos, negsuc}
use lib.ListN.{length, replicate}
use lib.Ieee.{Float, nan, inf, fin, add, sub, mul, div, neg, sum, round, units, odd, size, of_int}
use Rattle.bits.specs.Constants.{nought}
use Rattle.bits.specs.Convert.{widen, narrow}
use Rattle.tree.specs.Slots.{slots}
use Rattle.tree.specs.Refuse.{refused, gives, refuse, count, ragged, mismatched, too_many, no_match, any_entry_outside}
use Rattle.sums.specs.declared.Vector3d.{Vector3d}
use Rattle.sums.specs.declared.CorrespondenceStats.{CorrespondenceStats}
use Rattle.sums.specs.Vector.{narrow_point, minus, times, over, norm_squared}
use Rattle.sums.specs.Stats.{zero_sums, add_pair, merge_sums, mse}
use Rattle.sums.specs.Sums.{add_entry, add_entries, cut, add_runs, sums_by, sums}
use Rattle.sums.specs.Entries.{sums_in}

abbrev #1 : Float
#1 = fin false 1 (pos 0)

abbrev #2 : Float
#2 = fin false 1 (pos 1)

abbrev #3 : Float
#3 = fin false 3 (pos 0)

abbrev #5 : Float
#5 = fin false 5 (pos 0)

-- 2 ^ 53, next to which 1 is lost and 2 is not
abbrev huge : Float
huge = fin false 1 (pos 53)

abbrev vector : Float → Float → Float → Vector3d
vector a b c = record { x = a; y = b; z = c }

-- the sums of an error alone
abbrev errors : ℕ → Float → CorrespondenceStats
errors n e =
    let v = vector nought nought nought in
    record { count = n; sum_source = v; sum_target = v; sum_outer_x = v; sum_outer_y = v; sum_outer_z = v; sum_sq_error = e }

-- four source points on the x axis, each matched with the origin
abbrev line : List Float
line = huge ∷ nought ∷ nought ∷ #1 ∷ nought ∷ nought ∷ #1 ∷ nought ∷ nought ∷ #1 ∷ nought ∷ nought ∷ []

abbrev origin : List Float
origin = nought ∷ nought ∷ nought ∷ []

abbrev firsts : List ℕ
firsts = 0 ∷ 0 ∷ 0 ∷ 0 ∷ []

-- 2 ^ 53, then k points without a match, then two points at 1
abbrev apart : ℕ → CorrespondenceStats
apart k =
    sums (huge ∷ nought ∷ nought ∷ replicate (3 * k) nought ++ #1 ∷ nought ∷ nought ∷ #1 ∷ nought ∷ nought ∷ []) origin (0 ∷ replicate k no_match ++ 0 ∷ 0 ∷ [])

record Table : Type 0 where
  -- the sums of nothing, and of source points without a match
  none : sums [] [] [] ≡ zero_sums
  none-matched : sums line origin (no_match ∷ no_match ∷ no_match ∷ no_match ∷ []) ≡ zero_sums
  -- one pair: a row of the nine for each coordinate of the source point
  nine : sums (#1 ∷ #2 ∷ #3 ∷ []) (nought ∷ nought ∷ nought ∷ #5 ∷ #1 ∷ #2 ∷ []) (1 ∷ [])
      ≡ record {
        count = 1;
        sum_source = vector #1 #2 #3;
        sum_target = vector #5 #1 #2;
        sum_outer_x = vector #5 #1 #2;
        sum_outer_y = vector (fin false 5 (pos 1)) #2 (fin false 1 (pos 2));
        sum_outer_z = vector (fin false 15 (pos 0)) #3 (fin false 3 (pos 1));
        sum_sq_error = fin false 9 (pos 1);
      }
  -- the count is that of the matched entries
  counted : (sums line origin (0 ∷ no_match ∷ 0 ∷ no_match ∷ [])).count ≡ 2
  -- (ex·ex + ey·ey) + ez·ez: 2 ^ 54 takes up neither of two squares of 1.25, and would take up their sum
  grouped : (sums (fin false 1 (pos 27) ∷ fin false 5 (negsuc 1) ∷ fin false 5 (negsuc 1) ∷ []) origin (0 ∷ [])).sum_sq_error ≡ fin false 1 (pos 54)
  -- one long sum loses every 1, and runs of 2 do not
  long : (sums_by 4 origin (slots line firsts)).sum_source ≡ vector huge nought nought
  in-runs : (sums_by 2 origin (slots line firsts)).sum_source ≡ vector (fin false 4503599627370497 (pos 1)) nought nought
  -- the runs have 512 points: the two at 1 meet in the second run; one of them is the last of the first
  run-after-512 : (apart 511).sum_source.x ≡ fin false 4503599627370497 (pos 1)
  run-up-to-512 : (apart 510).sum_source.x ≡ huge
  runs : cut {A = ℕ} 2 5 (1 ∷ 2 ∷ 3 ∷ 4 ∷ 5 ∷ []) ≡ (1 ∷ 2 ∷ []) ∷ (3 ∷ 4 ∷ []) ∷ (5 ∷ []) ∷ []
  -- the MSE: of nothing; divided, and not multiplied by 1/49; too large for f32; of a NaN
  mse-none : mse (errors 0 #5) ≡ nought
  mse-divides : mse (errors 49 (fin false 1644167119 (pos 0))) ≡ fin false 1 (pos 25)
  mse-large : mse (errors 1 (fin false 1 (pos 200))) ≡ inf false
  mse-nan : mse (errors 1 nan) ≡ nan
  -- the refusals, each before the next
  ragged-source : sums_in (#1 ∷ #1 ∷ []) origin [] ≡ refused 1
  ragged-target : sums_in [] (#1 ∷ []) [] ≡ refused 1
  another-length : sums_in line origin (0 ∷ 0 ∷ 0 ∷ []) ≡ refused 1
  outside : sums_in line origin (0 ∷ 1 ∷ 0 ∷ 0 ∷ []) ≡ refused 5
  ragged-first : sums_in line (#1 ∷ []) (9 ∷ 9 ∷ 9 ∷ 9 ∷ []) ≡ refused 1
  nothing : sums_in [] [] [] ≡ gives zero_sums
  -- runs of one: first to last, 1, 1 and 2 ^ 53; counts and errors of every run are in
  first-to-last : (sums_by 1 origin (slots (#1 ∷ nought ∷ nought ∷ #1 ∷ nought ∷ nought ∷ huge ∷ nought ∷ nought ∷ []) (0 ∷ 0 ∷ 0 ∷ []))).sum_source.x ≡ fin false 4503599627370497 (pos 1)
  merged : ((sums_by 1 origin (slots (#1 ∷ nought ∷ nought ∷ #2 ∷ nought ∷ nought ∷ []) (0 ∷ 0 ∷ []))).count ≡ 2)
      × ((sums_by 1 origin (slots (#1 ∷ nought ∷ nought ∷ #2 ∷ nought ∷ nought ∷ []) (0 ∷ 0 ∷ []))).sum_sq_error ≡ #5)
  -- divided in f64: 16777217 is no f32
  mse-in-f64 : mse (errors 5 (fin false 16777217 (pos 0))) ≡ fin false 6710887 (negsuc 0)
  -- vectors: each coordinate, the first less the second, f64 throughout and narrowed once
  narrowed : narrow_point (vector (fin false 1073741825 (negsuc 29)) #2 #3) ≡ record { x = #1; y = #2; z = #3 }
  taken-away : minus (vector #3 #5 #1) (vector #1 #2 #3) ≡ vector #2 #3 (fin true 1 (pos 1))
  multiplied : times (fin false 4097 (pos 0)) (vector (fin false 4097 (pos 0)) #1 #2) ≡ vector (fin false 16785409 (pos 0)) (fin false 4097 (pos 0)) (fin false 4097 (pos 1))
  divided : over (vector (fin false 1644167119 (pos 0)) (fin false 49 (pos 0)) (fin false 49 (pos 1))) (fin false 49 (pos 0)) ≡ vector (fin false 33554431 (pos 0)) #1 #2
  norm : norm_squared (vector #1 #2 #3) ≡ fin false 7 (pos 1)

table : Table
unfolding sums sums_by slots cut add_runs add_entries add_entry add_pair merge_sums mse sums_in any_entry_outside narrow widen add sub mul div neg sum round units odd size of_int
table =
    record {
      none = refl;
      none-matched = refl;
      nine = refl;
      counted = refl;
      grouped = refl;
      long = refl;
      in-runs = refl;
      run-after-512 = refl;
      run-up-to-512 = refl;
      runs = refl;
      mse-none = refl;
      mse-divides = refl;
      mse-large = refl;
      mse-nan = refl;
      ragged-source = refl;
      ragged-target = refl;
      another-length = refl;
      outside = refl;
      ragged-first = refl;
      nothing = refl;
      first-to-last = refl;
      merged = (refl, refl);
      mse-in-f64 = refl;
      narrowed = refl;
      taken-away = refl;
      multiplied = refl;
      divided = refl;
      norm = refl;
    }

-- 2: a cloud that long is too long for a row, so that it is told of every list
long-target : (source target : List Float) (matches : List ℕ) → (ragged source || ragged target || mismatched source matches) ≡ false
    → too_many (count source) ≡ false → too_many (count target) ≡ true → sums_in source target matches ≡ refused 2
unfolding sums_in
long-target source target matches even few h =
    let next = refuse 5 (any_entry_outside (count target) matches) (gives (sums source target matches)) in
    ap₂ (λ a b. refuse 1 a (refuse 2 (b || too_many (count target) || too_many (length matches)) next)) even few
    ∙ ap (λ b. refuse 2 (b || too_many (length matches)) next) h
