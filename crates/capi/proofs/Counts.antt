-- What an answer says of numbers: counts fit 32 bits, and a part that is handed back is empty exactly where there is no point.
use Prim.Native.Nat.{ℕ, suc, ◌*◌, ◌≤◌}
use native.Mathlib.Omega.{arith}
use mathlib.Core.Path.{◌≡◌, refl, sym, ap, ◌∙◌}
use mathlib.Core.Bool.{Bool, true, false, cond, not, ◌||◌}
use mathlib.Core.List.{List, [], ◌∷◌}
use lib.Dec.{eqb, ltb}
use lib.ListN.{length, take, drop, length-drop}
use lib.Seq.{length-take-le}
use lib.Ieee.{Float}
use borrow.Author.Tests.{ltb-true, ltb-false, not-false}
use Rattle.tree.specs.Refuse.{Outcome, gives, refuse, returned, count, most_points, no_match, ragged, too_many, short}
use Rattle.tree.specs.Part.{laid}
use Rattle.tree.specs.Cloud.{tree_of}
use Rattle.tree.proofs.Cloud.{indexed-length, tree_of-length}
use Rattle.build.specs.Entries.{written, building}
use Rattle.matching.specs.Pairs.{Pair, pair, pairs, pairs_from, pairs_in}
use Rattle.matching.specs.TargetPoint.{no_point, part_at}
use Rattle.tree.proofs.Outside.{neither}
use Rattle.capi.specs.Answers.{start_of}

-- an outcome that is no refusal met no line
passed : {A B : Type 0} (n : ℕ) (b : Bool) (next : Outcome A) (f : A → B) (a : B) → gives a ≡ returned f (refuse n b next) → (b ≡ false) × (gives a ≡ returned f next)
passed n true next f a e = absurd (let z : ◌≡◌ {A = ℕ} 0 1 = cc in omega arith)
passed n false next f a e = (refl, e)

given : {A : Type 0} {a b : A} → gives a ≡ gives b → a ≡ b
given e = cc

-- ---- slots of a build

pub slots-few : (cloud cs : List Float) (is : List ℕ) (m : ℕ) → gives m ≡ returned (λ w. w.slots) (building cloud cs is) → m ≤ most_points
unfolding written
slots-few cloud cs is m e =
    let w = written cloud cs is in
    let lacks = short cs (3 * count cloud) || short is (count cloud) in
    let p1 = passed 1 (ragged cloud) (refuse 2 (too_many (count cloud)) (refuse 3 lacks (gives w))) (λ v. v.slots) m e in
    let p2 = passed 2 (too_many (count cloud)) (refuse 3 lacks (gives w)) (λ v. v.slots) m p1.1 in
    let p3 = passed 3 lacks (gives w) (λ v. v.slots) m p2.1 in
    let k : m ≡ length (laid (tree_of cloud)) = given p3.1 in
    omega (arith, tree_of-length cloud, indexed-length cloud, ltb-false most_points (count cloud) p2.0)

-- ---- pairs of a match list

one-pair : (b : Bool) (p : Pair) (rest : List Pair) (n : ℕ) → length rest ≤ n → length (cond b rest (p ∷ rest)) ≤ suc n
one-pair true p rest n h = omega arith
one-pair false p rest n h = omega arith

from-length : (i : ℕ) (ms : List ℕ) → length (pairs_from i ms) ≤ length ms
unfolding pairs_from
from-length i [] = omega arith
from-length i (m ∷ ms) = one-pair (eqb m no_match) (pair i m) (pairs_from (suc i) ms) (length ms) (from-length (suc i) ms)

pub pairs-few : (ms ss ts : List ℕ) (n : ℕ) → gives n ≡ returned (λ w. w.number) (pairs_in ms ss ts) → n ≤ most_points
unfolding pairs_in pairs
pairs-few ms ss ts n e =
    let p2 = passed 2 (too_many (length ms)) _ (λ v. v.number) n e in
    let p3 = passed 3 (short ss (length (pairs_from 0 ms)) || short ts (length (pairs_from 0 ms))) _ (λ v. v.number) n p2.1 in
    let k : n ≡ length (pairs_from 0 ms) = given p3.1 in
    omega (arith, from-length 0 ms, ltb-false most_points (length ms) p2.0)

-- ---- a part of a cloud

there : (b : Bool) (l : List Float) (n s : ℕ) → (length (cond b [] l) ≡ 0 → ⊥) → s ≡ cond b n s
there true l n s h = absurd (h refl)
there false l n s h = refl

nowhere : (b : Bool) (l : List Float) (n s : ℕ) → (b ≡ false → length l ≡ 0 → ⊥) → length (cond b [] l) ≡ 0 → n ≡ cond b n s
nowhere true l n s f h = refl
nowhere false l n s f h = absurd (f refl h)

module _ (cloud : List Float) (i : ℕ) {part : List Float} (e : part ≡ part_at cloud i) where
  pub a-part : (length part ≡ 0 → ⊥) → 3 * i ≡ start_of cloud i
  unfolding part_at
  a-part h = there (no_point cloud i) (take 3 (drop (3 * i) cloud)) (length cloud) (3 * i) (λ z. h (ap length e ∙ z))

  three : no_point cloud i ≡ false → length (take 3 (drop (3 * i) cloud)) ≡ 0 → ⊥
  three f h =
      let k = neither (ragged cloud || too_many (count cloud)) (not (ltb i (count cloud))) f in
      let inside = ltb-true i (count cloud) (not-false (ltb i (count cloud)) k.1) in
      omega (arith, length-take-le 3 (drop (3 * i) cloud) (rw length-drop (omega arith)))

  pub no_part : length part ≡ 0 → length cloud ≡ start_of cloud i
  unfolding part_at
  no_part h = nowhere (no_point cloud i) (take 3 (drop (3 * i) cloud)) (length cloud) (3 * i) three (sym (ap length e) ∙ h)
