-- Radius' contract fixes the answer and both lent lists: any two outcomes that it allows are the same. Assumes nothing.
use mathlib.Core.List.{List}
use Prim.Native.Nat.{ℕ}
use lib.Ieee.{Float}
use Rattle.space.specs.declared.Point3f.{Point3f}
use Rattle.std.proofs.Common.{Result}
use Rattle.tree.specs.declared.Refusal.{Refusal}
use Rattle.lists.proofs.Determined.{Same, written-determined}
use Rattle.radius.specs.Entries.{RadiusWritten}

pub radius-determined : {coords : List Float} {indices : List ℕ} {q : Point3f} {radius : Float} {is₀ : List ℕ} {ds₀ : List Float} {r : Result ℕ Refusal} {is : List ℕ} {ds : List Float} {r' : Result ℕ Refusal} {is' : List ℕ} {ds' : List Float}
    → RadiusWritten coords indices q radius is₀ ds₀ r is ds → RadiusWritten coords indices q radius is₀ ds₀ r' is' ds' → Same r is ds r' is' ds'
radius-determined a b = written-determined a.written b.written
