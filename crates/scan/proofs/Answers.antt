-- What is written at the front of the lent bytes is the program's output.
use Prim.Native.Nat.{ℕ, ◌≤◌}
use native.Mathlib.Omega.{arith}
use mathlib.Core.Path.{◌≡◌, ap, ◌∙◌, subst}
use mathlib.Core.List.{List}
use lib.ListN.{length, drop, length-append}
use lib.Ieee.{Float}
use Rattle.std.specs.Borrow.{MutBor}
use Rattle.tree.specs.Refuse.{Outcome, refused, gives}
use Rattle.scan.specs.declared.input.Counts.{Counts}
use Rattle.scan.specs.Input.{header, source_of, target_of}
use Rattle.scan.specs.Program.{matches_of, report, refusal, answered, program}
use Rattle.text.specs.Puts.{Begins, Writes}
use Rattle.text.specs.declared.Writer.{Writer}
use Rattle.scan.specs.Promises.{Answers}
use Rattle.text.proofs.Stores.{writes-front}

module _ (B : List ℕ) where
  pub answers : {out : MutBor (List ℕ)} {w w' : Writer} {r : ℕ} → Begins out w → Writes (program B) w w' → r ≡ w'.len → Answers B out.now r w'.out.now
  answers b p e = let f = writes-front b p in record { returns = e ∙ f.0; written = f.1 }

  module _ {w w' : Writer} where
    pub answered-by : {o : Outcome Counts} → o ≡ header B → Writes (answered B o) w w' → Writes (program B) w w'
    unfolding program
    answered-by e p = subst (λ (o : Outcome Counts). Writes (answered B o) w w') e p

    pub refuses : (n : ℕ) → Writes (refusal n) w w' → Writes (answered B (refused n)) w w'
    unfolding answered
    refuses n p = p

    pub reports : (n : Counts) {S T : List Float} → S ≡ source_of B n → T ≡ target_of B n → Writes (report S T (matches_of S T)) w w' → Writes (answered B (gives n)) w w'
    unfolding answered
    reports n {S} {T} e_s e_t p =
        subst (λ (V : List Float). Writes (report (source_of B n) V (matches_of (source_of B n) V)) w w') e_t
        (subst (λ (V : List Float). Writes (report V T (matches_of V T)) w w') e_s p)

-- the bytes that it counts stand in the lent ones
pub answer-fits : {B out : List ℕ} {r : ℕ} {out' : List ℕ} → Answers B out r out' → r ≤ length out'
answer-fits {B} {out} {r} {out'} a = omega (arith, a.returns, ap length a.written, length-append (program B) (drop (length (program B)) out))
