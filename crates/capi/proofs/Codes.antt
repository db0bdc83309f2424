-- A code tells: no entry refuses with 0, so that 0 means success alone. And the room for sums is tested where the order of the refusals puts it.
use Rattle.std.proofs.Common.{Option}
use Prim.Native.Nat.{ℕ, suc, ◌*◌, ◌<◌, min}
use native.Mathlib.Omega.{arith}
use mathlib.Core.Path.{◌≡◌, refl}
use mathlib.Core.Bool.{Bool, true, false, ◌&&◌, ◌||◌}
use mathlib.Core.List.{List}
use lib.Dec.{eqb}
use lib.ListN.{length}
use lib.Ieee.{Float}
use Rattle.space.specs.declared.Point3f.{Point3f}
use Rattle.tree.specs.Refuse.{Outcome, refused, gives, refuse, on_cloud, on_tree, count, ragged, uneven, mismatched, too_many, short, any_entry_outside}
use Rattle.build.specs.Entries.{building, checking}
use Rattle.search.specs.declared.Nearest.{Nearest}
use Rattle.search.specs.Search.{bounded}
use Rattle.lists.specs.Entries.{nearest_listing}
use Rattle.radius.specs.Entries.{radius_listing}
use Rattle.matching.specs.Pairs.{pairs, pairs_in}
use Rattle.matching.specs.Refusals.{one, two, four, five}
use Rattle.matching.specs.Matching.{match_in}
use Rattle.sums.specs.Sums.{sums}
use Rattle.sums.specs.Entries.{sums_in}
use Rattle.frame.specs.Entries.{scale_in, centred_in, frame_in}
use Rattle.capi.specs.Codes.{in_room}

-- ---- a refusal's number is above 0

abbrev pub Tells : {A : Type 0} → Outcome A → Type 0
Tells o = (n : ℕ) → o ≡ refused n → 0 < n

module _ {A : Type 0} where
  given : (a : A) → Tells (gives a)
  given a n e = absurd (let z : ◌≡◌ {A = ℕ} 0 1 = cc in omega arith)

  line : (n : ℕ) (b : Bool) {next : Outcome A} → Tells next → Tells (refuse (suc n) b next)
  line n true h m e = let k : suc n ≡ m = cc in omega arith
  line n false h m e = h m e

  cloud-lines : (cloud : List Float) {next : Outcome A} → Tells next → Tells (on_cloud cloud next)
  cloud-lines cloud {next} h = line 0 (ragged cloud) (line 1 (too_many (count cloud)) h)

  tree-lines : (cs : List Float) (is : List ℕ) {next : Outcome A} → Tells next → Tells (on_tree cs is next)
  tree-lines cs is {next} h = line 0 (uneven cs is) (line 1 (too_many (length is)) h)

  pub room-tells : (lacking : Bool) (o : Outcome A) → Tells o → Tells (in_room lacking o)
  room-tells lacking (gives a) h = line 2 lacking (given a)
  room-tells lacking (refused n) h = line 2 (eqb n 5 && lacking) h

pub build-tells : (cloud cs : List Float) (is : List ℕ) → Tells (building cloud cs is)
build-tells cloud cs is = line 0 (ragged cloud) (line 1 (too_many (count cloud)) (line 2 (short cs (3 * count cloud) || short is (count cloud)) (given _)))

pub check-tells : (cloud cs : List Float) (is : List ℕ) → Tells (checking cloud cs is)
check-tells cloud cs is = line 0 (ragged cloud || uneven cs is) (line 1 (too_many (count cloud) || too_many (length is)) (given _))

pub search-tells : (cs : List Float) (is : List ℕ) (q : Point3f) (bound : Float) (seed : Nearest) → Tells (bounded cs is q bound seed)
unfolding bounded
search-tells cs is q bound seed = tree-lines cs is (given _)

pub nearest-tells : (cs : List Float) (is : List ℕ) (q : Point3f) (k : ℕ) (os : List ℕ) (ds : List Float) → Tells (nearest_listing cs is q k os ds)
unfolding nearest_listing
nearest-tells cs is q k os ds = tree-lines cs is (line 2 (short os (min k (length is)) || short ds (min k (length is))) (given _))

pub radius-tells : (cs : List Float) (is : List ℕ) (q : Point3f) (r : Float) (os : List ℕ) (ds : List Float) → Tells (radius_listing cs is q r os ds)
unfolding radius_listing
radius-tells cs is q r os ds = tree-lines cs is (line 2 (short os (length is) || short ds (length is)) (given _))

pub match-tells : (S T C : List Float) (I : List ℕ) (l : Option Float) (M : List ℕ) → Tells (match_in S T C I l M)
unfolding match_in
match-tells S T C I l M = line 0 (one S T C I M) (line 1 (two S T C I M) (line 3 (four S T C I M) (line 4 (five S T C I M) (given _))))

pub pairs-tell : (M S T : List ℕ) → Tells (pairs_in M S T)
unfolding pairs_in
pairs-tell M S T = line 1 (too_many (length M)) (line 2 (short S (length (pairs M)) || short T (length (pairs M))) (given _))

pub sums-tell : (S T : List Float) (M : List ℕ) → Tells (sums_in S T M)
unfolding sums_in
sums-tell S T M =
    line 0 (ragged S || ragged T || mismatched S M) (line 1 (too_many (count S) || too_many (count T) || too_many (length M)) (line 4 (any_entry_outside (count T) M) (given _)))

pub scale-tells : (cloud : List Float) → Tells (scale_in cloud)
unfolding scale_in
scale-tells cloud = cloud-lines cloud (given _)

pub centred-tells : (cloud : List Float) → Tells (centred_in cloud)
unfolding centred_in
centred-tells cloud = cloud-lines cloud (given _)

pub frame-tells : (cloud : List Float) → Tells (frame_in cloud)
unfolding frame_in
frame-tells cloud = cloud-lines cloud (given _)

-- ---- "Tested in the order 1, 2, 4, 3, 5"

in_order : {A : Type 0} (lacking : Bool) (a : A) (b1 b2 b5 : Bool) → in_room lacking (refuse 1 b1 (refuse 2 b2 (refuse 5 b5 (gives a)))) ≡ refuse 1 b1 (refuse 2 b2 (refuse 3 lacking (refuse 5 b5 (gives a))))
in_order lacking a true b2 b5 = refl
in_order lacking a false true b5 = refl
in_order lacking a false false true = refl
in_order lacking a false false false = refl

pub sums-in-order : (S T : List Float) (M : List ℕ) (lacking : Bool) → in_room lacking (sums_in S T M)
    ≡ refuse 1 (ragged S || ragged T || mismatched S M)
    (refuse 2 (too_many (count S) || too_many (count T) || too_many (length M))
    (refuse 3 lacking (refuse 5 (any_entry_outside (count T) M) (gives (sums S T M)))))
unfolding sums_in
sums-in-order S T M lacking =
    in_order lacking (sums S T M) (ragged S || ragged T || mismatched S M) (too_many (count S) || too_many (count T) || too_many (length M)) (any_entry_outside (count T) M)
