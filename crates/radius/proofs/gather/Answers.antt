-- `gather`: nothing is held at first, and what is held at last is what the lent lists hold.
use mathlib.Core.Path.{refl}
use borrow.Author.Rules.{rules}
use lib.ListN.{length}
use Rattle.lists.proofs.Walking.{front-ends}
use Rattle.radius.specs.Near.{gathered, numbered}
use Rattle.radius.proofs.Gathering.{begins}
use Rattle.radius.proofs.gather.Goals as goal

pub pruned_walk-requires : goal.pruned_walk-requires
pruned_walk-requires c = let a = c.args in (_, _, begins (length a.tree.now.indices) a.query a.radius a.slots.now a.squares.now _ refl refl refl refl c.requires)

pub returns : goal.returns
unfolding gathered numbered
returns c =
    let a = c.args in
    front-ends
    (c.pruned_walk.ensures _ _ (begins (length a.tree.now.indices) a.query a.radius a.slots.now a.squares.now _ refl refl refl refl c.requires)).1.front
    _ _ _ refl (search rules) (search rules)
