-- Each promise of the C interface fixes the code and every lent place: two outcomes that it allows, of one rule, are the same. Assumes nothing.
use mathlib.Core.Path.{◌≡◌, sym, ◌∙◌}
use mathlib.Core.Bool.{Bool}
use mathlib.Core.List.{List}
use Rattle.std.proofs.Common.{Option}
use Prim.Native.Nat.{ℕ}
use lib.Ieee.{Float}
use Rattle.tree.specs.Refuse.{Outcome}
use Rattle.build.specs.Entries as Build
use Rattle.search.specs.declared.Nearest.{Nearest}
use Rattle.lists.specs.Entry.{Entry}
use Rattle.matching.specs.Pairs as Pairs
use Rattle.sums.specs.declared.CorrespondenceStats.{CorrespondenceStats}
use Rattle.frame.specs.declared.LocalFrame.{LocalFrame}
use Rattle.capi.specs.Promises.{Builds, Checks, Finds, Lists, Matches, ListsPairs, Sums, Writes, Frames}

pub builds-determined : {o : Outcome Build.Written} {r s : ℕ} {cs : List Float} {is : List ℕ} {n : ℕ} {c1 c2 : List Float} {i1 i2 : List ℕ} {n1 n2 : ℕ}
    → Builds o r cs is n c1 i1 n1 → Builds o s cs is n c2 i2 n2 → (r ≡ s) × (c1 ≡ c2) × (i1 ≡ i2) × (n1 ≡ n2)
builds-determined a b = (a.told ∙ sym b.told, a.coords ∙ sym b.coords, a.indices ∙ sym b.indices, a.count ∙ sym b.count)

pub checks-determined : {o : Outcome Bool} {r s yes y1 y2 : ℕ} → Checks o r yes y1 → Checks o s yes y2 → (r ≡ s) × (y1 ≡ y2)
checks-determined a b = (a.told ∙ sym b.told, a.flag ∙ sym b.flag)

pub finds-determined : {o : Outcome Nearest} {r s f i : ℕ} {d : Float} {f1 f2 i1 i2 : ℕ} {d1 d2 : Float}
    → Finds o r f i d f1 i1 d1 → Finds o s f i d f2 i2 d2 → (r ≡ s) × (f1 ≡ f2) × (i1 ≡ i2) × (d1 ≡ d2)
finds-determined a b = (a.told ∙ sym b.told, a.flag ∙ sym b.flag, a.which ∙ sym b.which, a.far ∙ sym b.far)

pub lists-determined : {handed : List Entry → List Float} {o : Outcome (List Entry)} {r s : ℕ} {is : List ℕ} {ds : List Float} {n : ℕ} {i1 i2 : List ℕ} {d1 d2 : List Float} {n1 n2 : ℕ}
    → Lists handed o r is ds n i1 d1 n1 → Lists handed o s is ds n i2 d2 n2 → (r ≡ s) × (i1 ≡ i2) × (d1 ≡ d2) × (n1 ≡ n2)
lists-determined a b = (a.told ∙ sym b.told, a.indices ∙ sym b.indices, a.distances ∙ sym b.distances, a.number ∙ sym b.number)

pub matches-determined : {o : Outcome (List ℕ)} {r s : ℕ} {l l1 l2 : List ℕ} → Matches o r l l1 → Matches o s l l2 → (r ≡ s) × (l1 ≡ l2)
matches-determined a b = (a.told ∙ sym b.told, a.entries ∙ sym b.entries)

pub pairs-determined : {o : Outcome Pairs.Written} {r s : ℕ} {l m : List ℕ} {n : ℕ} {l1 l2 m1 m2 : List ℕ} {n1 n2 : ℕ}
    → ListsPairs o r l m n l1 m1 n1 → ListsPairs o s l m n l2 m2 n2 → (r ≡ s) × (l1 ≡ l2) × (m1 ≡ m2) × (n1 ≡ n2)
pairs-determined a b = (a.told ∙ sym b.told, a.source ∙ sym b.source, a.target ∙ sym b.target, a.number ∙ sym b.number)

pub sums-determined : {o : Outcome CorrespondenceStats} {r s : ℕ} {l : List Float} {n : ℕ} {l1 l2 : List Float} {n1 n2 : ℕ}
    → Sums o r l n l1 n1 → Sums o s l n l2 n2 → (r ≡ s) × (l1 ≡ l2) × (n1 ≡ n2)
sums-determined a b = (a.told ∙ sym b.told, a.numbers ∙ sym b.numbers, a.number ∙ sym b.number)

pub writes-determined : {A : Type 0} {numbers_of : A → List Float} {o : Outcome A} {r s : ℕ} {l l1 l2 : List Float}
    → Writes numbers_of o r l l1 → Writes numbers_of o s l l2 → (r ≡ s) × (l1 ≡ l2)
writes-determined a b = (a.told ∙ sym b.told, a.numbers ∙ sym b.numbers)

pub frames-determined : {o : Outcome (Option LocalFrame)} {r s : ℕ} {l : List Float} {far : ℕ} {l1 l2 : List Float} {f1 f2 : ℕ}
    → Frames o r l far l1 f1 → Frames o s l far l2 f2 → (r ≡ s) × (l1 ≡ l2) × (f1 ≡ f2)
frames-determined a b = (a.told ∙ sym b.told, a.origin ∙ sym b.origin, a.flag ∙ sym b.flag)
