-- The two lent lists while a search fills them: k nearest and radius hold their entries in this way. Definitions only.
use Rattle.std.specs.Prelude.{◌≡◌, ℕ, ◌≤◌, List, length, Float}
use base.Fml.{GName}
use Rattle.lists.specs.Entry.{Entry, squares_in}
use Rattle.lists.specs.Entries.{Held}

-- the lists as they were, and their references by name
pub record Lists : Type 0 where
  pub is : List ℕ
  pub ds : List Float
  pub is-name : GName
  pub ds-name : GName

-- behind these references the n entries es stand at the front of the lists, which have room for `most`
pub record Fronted (lists : Lists) (most : ℕ) (es : List Entry) (n : ℕ) (is-name : GName) (is' : List ℕ) (ds-name : GName) (ds' : List Float) : Type 0 where
  pub room-is : most ≤ length lists.is
  pub room-ds : most ≤ length lists.ds
  pub same-is : is-name ≡ lists.is-name
  pub same-ds : ds-name ≡ lists.ds-name
  pub held : Held es squares_in lists.is lists.ds n is' ds'
