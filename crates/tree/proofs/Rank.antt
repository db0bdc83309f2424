-- Laws of the order on an axis: by the coordinate's key, equals by lower index; and what a rank says of both. Assumes nothing.
use mathlib.Core.Path.{◌≡◌}
use Prim.Native.Nat.{ℕ, ◌^◌, ◌≤◌, ◌<◌}
use native.Mathlib.Omega.{arith}
use Rattle.bits.specs.Key.{key}
use Rattle.space.specs.Distance.{on}
use Rattle.tree.specs.Slots.{Slot, rank}
use Rattle.tree.proofs.Pair.{pair-second, pair-first, pair-le, pair_same}

-- a slot's key on an axis
abbrev pub key_on : ℕ → Slot → ℕ
key_on axis s = key (on axis s.point)

-- "equals by lower original index"
pub rank-tie : (axis : ℕ) (s t : Slot) → key_on axis s ≡ key_on axis t → s.index < t.index → rank axis s < rank axis t
unfolding rank
rank-tie axis s t e h = pair-second (key_on axis s) (key_on axis t) s.index t.index (omega arith) h

-- a lower key comes first, whatever the indices
pub rank-first : (axis : ℕ) (s t : Slot) → s.index < 2 ^ 32 → key_on axis s < key_on axis t → rank axis s < rank axis t
unfolding rank
rank-first axis s t h k = pair-first (key_on axis s) (key_on axis t) s.index t.index k h

-- what a rank says of the key
pub rank-key : (axis : ℕ) (s t : Slot) → t.index < 2 ^ 32 → rank axis s ≤ rank axis t → key_on axis s ≤ key_on axis t
unfolding rank
rank-key axis s t h k = pair-le (key_on axis s) (key_on axis t) s.index t.index h k

-- and of the index
pub rank-index : (axis : ℕ) (s t : Slot) → s.index < 2 ^ 32 → t.index < 2 ^ 32 → rank axis s ≡ rank axis t → s.index ≡ t.index
unfolding rank
rank-index axis s t h k e = pair_same (key_on axis s) (key_on axis t) s.index t.index h k e
