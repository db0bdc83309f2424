-- Bounded search as a pruned walk: what is asked, and how code holds the best. Definitions only.
use Rattle.std.specs.Prelude.{◌≡◌, ℕ, List, Float}
use Rattle.space.specs.declared.Point3f.{Point3f}
use Rattle.walk.specs.Pruned.{Rule}
use Rattle.search.specs.Search.{limit, visit, enters}
use Rattle.search.specs.declared.Nearest.{Nearest}
use Rattle.search.specs.declared.Bounded.{Bounded}

pub record Asked : Type 0 where
  pub indices : List ℕ
  pub query : Point3f
  pub bound : Float

abbrev pub rule : Asked → Rule Nearest
rule a = record { query = a.query; indices = a.indices; visit = visit a.query a.bound; enters = enters a.bound }

-- the best, and beside it the distance that stands as best
pub record Holds (asked : Asked) (search : Bounded) (held : Nearest) : Type 0 where
  pub indices : search.indices.now ≡ asked.indices
  pub best : search.held.best ≡ held
  pub limit : search.held.limit ≡ limit asked.bound held
