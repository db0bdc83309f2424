-- Radius search as a pruned walk: what is asked, and how code holds what it gathered. Definitions only.
use Rattle.std.specs.Prelude.{◌≡◌, ℕ, ◌+◌, ◌≤◌, List, length, Float}
use Rattle.space.specs.declared.Point3f.{Point3f}
use Rattle.space.specs.Distance.{square}
use Rattle.walk.specs.Pruned.{Rule}
use Rattle.lists.specs.Entry.{Entry}
use Rattle.lists.specs.Radius.{gather, plane_within}
use Rattle.lists.specs.Lists.{Lists, Fronted}
use Rattle.radius.specs.Near.{counting}
use Rattle.radius.specs.declared.WithinReach.{WithinReach}

-- m slots, and the lent lists
pub record Asked : Type 0 where
  pub m : ℕ
  pub query : Point3f
  pub radius : Float
  pub lists : Lists

abbrev pub rule : Asked → Rule (List Entry)
rule a = record { query = a.query; indices = counting 0 a.m; visit = gather a.radius a.query; enters = plane_within a.radius }

-- the lent lists hold es, and have room for one entry for each slot that is still to come
pub record Holds (asked : Asked) (room : ℕ) (search : WithinReach) (es : List Entry) : Type 0 where
  pub reach : search.reach ≡ square asked.radius
  pub room-es : length es + room ≤ asked.m
  pub front : Fronted asked.lists asked.m es search.count search.slots.ghost_name search.slots.now search.squares.ghost_name search.squares.now
