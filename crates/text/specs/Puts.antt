-- What is written into lent bytes. Definitions only.
use Rattle.std.specs.Prelude.{◌≡◌, ℕ, ◌+◌, ◌≤◌, List, length}
use Rattle.std.specs.Borrow.{MutBor}
use Rattle.std.proofs.lemmas.List.Edits.{sets}
use Rattle.text.specs.declared.Writer.{Writer}

-- a text is written from place `at` on, where there is room; the result is the place behind it
pub record Puts (text : List ℕ) (at : ℕ) (out : List ℕ) (r : ℕ) (out' : List ℕ) : Type 0 where
  pub fits : at + length text ≤ length out
  pub end : r ≡ at + length text
  pub list : out' ≡ sets out at text

-- a writer begins at the front of the lent bytes
pub record Begins (out : MutBor (List ℕ)) (w : Writer) : Type 0 where
  pub same_reference : w.out.ghost_name ≡ out.ghost_name
  pub bytes : w.out.now ≡ out.now
  pub front : w.len ≡ 0

-- n bytes more have room
abbrev pub HasRoom : ℕ → Writer → Type 0
HasRoom n w = w.len + n ≤ length w.out.now

-- a writer goes on by a text, in the same lent bytes
pub record Writes (text : List ℕ) (w w' : Writer) : Type 0 where
  pub same_reference : w'.out.ghost_name ≡ w.out.ghost_name
  pub put : Puts text w.len w.out.now w'.len w'.out.now
