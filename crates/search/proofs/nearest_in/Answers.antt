-- `nearest_in`: the pruned walk from the seed.
use mathlib.Core.Path.{ap, ◌∙◌}
use Rattle.search.specs.Search.{searched, walked}
use Rattle.search.proofs.Best.{begins}
use Rattle.search.proofs.nearest_in.Goals as goal

pub pruned_walk-requires : goal.pruned_walk-requires
pruned_walk-requires c = let a = c.args in (_, _, begins a.tree.now.indices a.query a.bound_sq _ c.indices.ensures.held c.limit.ensures)

pub returns : goal.returns
unfolding searched walked
returns c =
    let a = c.args in
    let best = (c.pruned_walk.ensures _ _ (begins a.tree.now.indices a.query a.bound_sq _ c.indices.ensures.held c.limit.ensures)).1.best in
    best ∙ ap (walked a.tree.now.coords a.tree.now.indices a.query a.bound_sq) c.first-first.ensures
