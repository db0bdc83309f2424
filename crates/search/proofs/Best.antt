-- The best so far: a seed that is kept or dropped, and that what is not entered is not entered later. Assumes nothing.
use mathlib.Core.Path.{◌≡◌, refl, sym, ◌∙◌, subst}
use mathlib.Core.Bool.{Bool, true, false, cond, true≢false}
use mathlib.Core.List.{List}
use Prim.Native.Nat.{ℕ}
use lib.Dec.{T, not_T}
use lib.ListN.{length}
use lib.Ieee.{Float, lt}
use lib.Ieee.Bits.{is_true, is_false}
use Rattle.bits.proofs.Compare.{lt_trans}
use Rattle.space.specs.declared.Point3f.{Point3f}
use Rattle.space.specs.Distance.{distance_squared}
use Rattle.tree.proofs.Walk.{Falling}
use Rattle.walk.specs.Pruned.{Begins}
use Rattle.search.specs.Bounded.{rule, Holds}
use Rattle.search.specs.declared.Bounded.{Bounded}
use Rattle.search.specs.Search.{limit, first_best, visit, enters}
use Rattle.search.specs.declared.Nearest.{Nearest}
use Rattle.search.specs.declared.Nearest.TheVariants.{Found, Nothing}

-- ---- tests as facts

pub is_T : (b : Bool) → b ≡ true → T b
is_T b e = subst T (sym e) tt

pub no : (b : Bool) → (T b → ⊥) → b ≡ false
no b h = is_false b (not_T b h)

pub yes-no : {b : Bool} → b ≡ true → b ≡ false → ⊥
yes-no t f = true≢false (sym t ∙ f)

-- ---- the seed

pub kept : (bound : Float) (i : ℕ) (d : Float) (s : Nearest) → s ≡ Found i d → lt d bound ≡ true → Found i d ≡ first_best bound s
kept bound i d s e t = rw (e, t)

pub dropped : (bound : Float) (i : ℕ) (d : Float) (s : Nearest) → s ≡ Found i d → lt d bound ≡ false → Nothing ≡ first_best bound s
dropped bound i d s e t = rw (e, t)

-- the best only falls
pub falling : (q : Point3f) (bound : Float) → Falling (visit q bound) (enters bound)
falling q bound pl n s = go (lt (distance_squared q n.point) (limit bound s)) refl
  where
    d : Float
    d = distance_squared q n.point

    go : (c : Bool) → lt d (limit bound s) ≡ c → lt pl (limit bound (cond c (Found n.index d) s)) ≡ true → lt pl (limit bound s) ≡ true
    go true e h = is_true (lt pl (limit bound s)) (lt_trans pl d (limit bound s) (is_T (lt pl d) h) (is_T (lt d (limit bound s)) e))
    go false e h = h

-- ---- where the walk begins

pub begins : (indices : List ℕ) (q : Point3f) (bound : Float) (search : Bounded) → search.indices.now ≡ indices → search.held.limit ≡ limit bound search.held.best
    → Begins rule (λ a room s best. Holds a s best) (length indices) q search
    (record { indices = indices; query = q; bound = bound }) search.held.best
begins indices q bound search a b = record { from = refl; over = refl; falling = falling q bound; holds = record { indices = a; best = refl; limit = b } }
