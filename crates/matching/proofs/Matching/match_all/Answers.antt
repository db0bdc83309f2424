use Prim.Native.Nat.{ℕ, ◌+◌, ◌<◌, ◌≤◌}
use native.Mathlib.Omega.{arith}
use mathlib.Core.Path.{◌≡◌, ap, ◌∙◌}
use mathlib.Core.List.{List}
use lib.ListN.{length, get_or, set}
use Rattle.tree.proofs.Outside.{entry-below}
use Rattle.matching.specs.Matching.{match_all}
use Rattle.matching.proofs.Entries.{after, after-seed, after_one, after-all}
use Rattle.matching.proofs.Matching.match_all.Goals as goal

-- at the next point, the seed still stands, and its entry goes in its place
module _ (entry : ℕ → ℕ → ℕ) (M₀ : List ℕ) {M : List ℕ} {i : ℕ} (e : M ≡ after entry M₀ i) (h : i < length M₀) where
  seed : get_or M i 0 ≡ get_or M₀ i 0
  seed = ap (λ (l : List ℕ). get_or l i 0) e ∙ after-seed entry M₀ i h

  turn : (m : ℕ) → m ≡ entry i (get_or M i 0) → set M i m ≡ after entry M₀ (i + 1)
  turn m p = rw (p ∙ ap (entry i) seed, e) (after_one entry M₀ i h)

pub match_point-requires-clause-seed_inside : goal.match_point-requires-clause-seed_inside
match_point-requires-clause-seed_inside c p =
    let h : c.loop-i.i < length c.args.matches.now = omega arith in
    let e = seed _ _ c.loop-i.invariant h in
    rw e (entry-below _ _ _ h c.requires.seeds_inside (λ q. p (e ∙ q)))

pub loop-i-preserved : goal.loop-i-preserved
loop-i-preserved c = let h : c.loop-i.i < length c.args.matches.now = omega arith in turn _ _ c.loop-i.invariant h _ c.match_point.ensures

pub returns : goal.returns
unfolding match_all
returns c = let h : length c.args.matches.now ≤ c.loop-i.i = omega arith in c.loop-i.invariant ∙ after-all _ _ _ h
