-- Laws of the lines: how long each is, and the lines of pairs one after the other.
use Prim.Native.Nat.{ℕ, suc, ◌*◌, ◌≤◌}
use native.Mathlib.Omega.{arith}
use mathlib.Core.Path.{◌≡◌, refl, sym, ap, ap₂, subst}
use mathlib.Core.List.{List, [], ◌∷◌, ◌++◌}
use lib.ListN.{length, length-append}
use Rattle.text.specs.Text.{decimal}
use Rattle.text.proofs.Digits.{decimal-length}
use Rattle.matching.specs.Pairs.{Pair}
use Rattle.scan.specs.Program.{count_line, pair_line, pair_lines}
use Rattle.text.specs.Puts.{Writes}
use Rattle.text.specs.declared.Writer.{Writer}
use Rattle.scan.specs.Promises.{side}
use Rattle.text.proofs.Stores.{Left, left-none, left-some}

pub count_line-length : (n : ℕ) → length (count_line n) ≤ 17
unfolding count_line
count_line-length n = omega (arith, decimal-length n, length-append (112 ∷ 97 ∷ 105 ∷ 114 ∷ 115 ∷ 32 ∷ []) (decimal n), length-append ((112 ∷ 97 ∷ 105 ∷ 114 ∷ 115 ∷ 32 ∷ []) ++ decimal n) (10 ∷ []))

pub pair_line-length : (i m : ℕ) → length (pair_line i m) ≤ 22
unfolding pair_line
pair_line-length i m =
    omega (arith, decimal-length i, decimal-length m, length-append (decimal i ++ (32 ∷ []) ++ decimal m) (10 ∷ []), length-append (decimal i ++ (32 ∷ [])) (decimal m), length-append (decimal i) (32 ∷ []))

pub pair_lines-length : (ps : List Pair) → length (pair_lines ps) ≤ 22 * length ps
unfolding pair_lines
pair_lines-length [] = omega arith
pair_lines-length (p ∷ ps) = omega (arith, length-append (pair_line p.source p.target) (pair_lines ps), pair_line-length p.source p.target, pair_lines-length ps)

-- ---- the lines of pairs, one after the other

module _ {whole : List ℕ} {w₀ w : Writer} where
  pub one-pair : {S T : List ℕ} {i m : ℕ} {is ms : List ℕ} → S ≡ i ∷ is → T ≡ m ∷ ms → Left whole w₀ (pair_lines (side S T)) w → {w' : Writer}
      → Writes (pair_line i m) w w' → Left whole w₀ (pair_lines (side is ms)) w'
  unfolding pair_lines side
  one-pair e f l p = left-some (subst (λ (t : List ℕ). Left whole w₀ t w) (ap₂ (λ (s t : List ℕ). pair_lines (side s t)) e f) l) p

  pub no-pair : {S : List ℕ} (T : List ℕ) → S ≡ [] → Left whole w₀ (pair_lines (side S T)) w → w.len ≤ length w.out.now → Writes whole w₀ w
  unfolding pair_lines side
  no-pair T e l k = left-none (subst (λ (s : List ℕ). Left whole w₀ (pair_lines (side s T)) w) e l) k

pub side-length : (S T : List ℕ) → length S ≡ length T → length (side S T) ≡ length S
unfolding side
side-length [] T e = refl
side-length (i ∷ S) [] e = sym e
side-length (i ∷ S) (m ∷ T) e = ap suc (side-length S T (omega arith))
