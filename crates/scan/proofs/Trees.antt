-- The build of a small cloud refuses nothing, and the tree's slots stand in front of the lent lists.
use Prim.Native.Nat.{ℕ, ◌*◌, ◌%◌, ◌≤◌}
use native.Mathlib.Omega.{arith}
use mathlib.Core.Path.{◌≡◌, sym, ap, ◌∙◌}
use mathlib.Core.List.{List}
use lib.ListN.{length, take, length-take}
use lib.Seq.{take_at}
use lib.Ieee.{Float}
use borrow.Author.Tests.{eq-eqb, le-ltb}
use Rattle.tree.specs.Refuse.{gives, returned, left, count}
use Rattle.tree.specs.Slots.{Slot, numbers_of, indices_of}
use Rattle.tree.specs.Part.{laid}
use Rattle.tree.specs.Cloud.{tree_of}
use Rattle.tree.proofs.Slots.{numbers-length, indices-length}
use Rattle.tree.proofs.Cloud.{tree_of-length, indexed-length}
use Rattle.std.proofs.Common.{Result, Ok}
use Rattle.tree.specs.declared.Refusal.{Refusal}
use Rattle.tree.proofs.Outcomes.{outcome-tells}
use Rattle.build.specs.Entries.{written, building, Builds}
use Rattle.scan.specs.Input.{most_read}

-- the slots of the tree
abbrev pub tree_slots : List Float → List Slot
tree_slots T = laid (tree_of T)

module _ (T : List Float) (whole : length T ≡ 3 * count T) (few : count T ≤ most_read) where
  built : (cs : List Float) (is : List ℕ) → length cs ≡ 3072 → length is ≡ 1024 → building T cs is ≡ gives (written T cs is)
  built cs is room room' =
      let a : length T % 3 ≡ 0 = omega arith in
      let b : count T ≤ 1048576 = omega arith in
      let c : 3 * count T ≤ length cs = omega arith in
      let d : count T ≤ length is = omega arith in
      simp (eq-eqb _ _ a, le-ltb _ _ b, le-ltb _ _ c, le-ltb _ _ d)

  module _ {cs : List Float} {is : List ℕ} {r : Result ℕ Refusal} {cs' : List Float} {is' : List ℕ} (b : Builds T cs is r cs' is') (room : length cs ≡ 3072) (room' : length is ≡ 1024) where
    tells : r ≡ Ok (length (tree_slots T))
    unfolding written
    tells = outcome-tells r (Ok _) (b.answer ∙ ap (returned (λ w. w.slots)) (built cs is room room'))

    module _ {m : ℕ} (p : r ≡ Ok m) where
      slot-number : m ≡ length (tree_slots T)
      slot-number = let g = sym p ∙ tells in cc

      pub slots-few : m ≤ most_read
      slots-few = omega (arith, slot-number, tree_of-length T, indexed-length T)

      pub coords-front : (k : ℕ) → k ≡ 3 * m → take k cs' ≡ numbers_of (tree_slots T)
      unfolding written
      coords-front k e =
          ap (take k) (b.coords ∙ ap (left (λ w. w.coords) cs) (built cs is room room'))
          ∙ take_at (numbers_of (tree_slots T)) _ k (omega (arith, slot-number, numbers-length (tree_slots T)))

      pub indices-front : take m is' ≡ indices_of (tree_slots T)
      unfolding written
      indices-front =
          ap (take m) (b.indices ∙ ap (left (λ w. w.indices) is) (built cs is room room'))
          ∙ take_at (indices_of (tree_slots T)) _ m (omega (arith, slot-number, indices-length (tree_slots T)))

      pub coords-length : (k : ℕ) → k ≡ 3 * m → k ≡ length (take k cs')
      coords-length k e = e ∙ ap (λ (j : ℕ). 3 * j) slot-number ∙ sym (ap length (coords-front k e) ∙ numbers-length (tree_slots T))

      pub slots_length : m ≡ length (take m is')
      slots_length = slot-number ∙ sym (ap length indices-front ∙ indices-length (tree_slots T))

-- a list is as long as a front of it
pub front_fits : {A : Type 0} (k : ℕ) (l : List A) → k ≡ length (take k l) → k ≤ length l
front_fits k l e = omega (arith, length-take k l)
