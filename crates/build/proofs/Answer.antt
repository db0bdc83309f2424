-- The laws of `build`'s answer: each refusal, and what stands in the lent lists on success. Assumes nothing.
use mathlib.Core.Path.{◌≡◌, refl, sym, ap, ap₂, ◌∙◌, subst}
use Rattle.std.proofs.Common.{Ok}
use mathlib.Core.List.{List, [], ◌∷◌, ◌++◌}
use Prim.Native.Nat.{ℕ, ◌*◌, ◌%◌, ◌≤◌}
use native.Mathlib.Omega.{arith}
use lib.ListN.{length, take, drop, length-map}
use lib.Seq.{take_at, length-take-le}
use lib.Ieee.{Float}
use borrow.Author.Tests.{eq-eqb, le-ltb}
use Rattle.tree.specs.Slots.{Slot, numbers_of, indices_of}
use Rattle.tree.specs.Part.{laid}
use Rattle.tree.specs.Grow.{grow}
use Rattle.tree.specs.Cloud.{indexed, tree_of}
use Rattle.tree.specs.Refuse.{gives, returned, left, count, most_points, overwrite}
use Rattle.tree.proofs.Slots.{indices-length}
use Rattle.tree.proofs.Cloud.{indexed-length, indexed-is, tree_of-is}
use Rattle.select.specs.Order.{slot_of, slots_of, Inside}
use Rattle.build.specs.Gather.{Gathered}
use Rattle.build.specs.Entries.{written, building, Builds}
use Rattle.build.proofs.Gathering.{indices_inside, slots_of-indexed}

module _ (cloud cs : List Float) (is : List ℕ) where
  -- room enough: what is given
  pub accepted : length cloud % 3 ≡ 0 → count cloud ≤ most_points → 3 * count cloud ≤ length cs → count cloud ≤ length is
      → building cloud cs is ≡ gives (written cloud cs is)
  accepted whole few room h =
      rw (eq-eqb (length cloud % 3) 0 whole, le-ltb most_points (count cloud) few, le-ltb (length cs) (3 * count cloud) room, le-ltb (length is) (count cloud) h)

indices-of : (cloud : List Float) (is : List ℕ) → indices_of (slots_of cloud is) ≡ is
unfolding indices_of
indices-of cloud [] = refl
indices-of cloud (i ∷ is) = ap (λ (u : List ℕ). i ∷ u) (indices-of cloud is)

-- ---- success: i1 holds the indexed points in front, j what the build of those leaves

module _ (cloud cs : List Float) (is : List ℕ) (m : ℕ) (i1 : List ℕ) (g : Gathered cloud m is i1) (few : count cloud ≤ most_points) (whole : length cloud % 3 ≡ 0)
    (room : count cloud ≤ length i1)
  where
    pub m-few : m ≤ count cloud
    m-few = omega (arith, g.count, indexed-length cloud)

    pub front_long : length (take m i1) ≡ m
    front_long = length-take-le m i1 (omega (arith, m-few))

    pub front-inside : Inside cloud (take m i1)
    front-inside = subst (Inside cloud) (sym g.front) (indices_inside cloud (indexed cloud) (omega arith) (indexed-is cloud))

    module _ (j : List ℕ) (j-long : length j ≡ length (take m i1))
        (grew : (f : ℕ) → length (take m i1) ≤ f → slots_of cloud j ≡ laid (grow f 0 (slots_of cloud (take m i1))))
      where
        j-count : length j ≡ m
        j-count = j-long ∙ front_long

        tree_is : slots_of cloud j ≡ laid (tree_of cloud)
        unfolding tree_of
        tree_is =
            grew (length (indexed cloud)) (omega (arith, front_long, g.count))
            ∙ ap (λ (u : List Slot). laid (grow (length (indexed cloud)) 0 u)) (ap (slots_of cloud) g.front ∙ slots_of-indexed cloud)

        j-is : j ≡ indices_of (laid (tree_of cloud))
        j-is = sym (indices-of cloud j) ∙ ap indices_of tree_is

        tree-long : length (laid (tree_of cloud)) ≡ m
        tree-long = ap length (sym tree_is) ∙ length-map j (slot_of cloud) ∙ j-count

        indices-are : j ++ drop m i1 ≡ overwrite (indices_of (laid (tree_of cloud))) is
        indices-are =
            ap₂ (λ (u v : List ℕ). u ++ v) j-is
            (g.rest ∙ ap (λ (n : ℕ). drop n is) (sym (indices-length (laid (tree_of cloud)) ∙ tree-long)))

        front-is : take m (j ++ drop m i1) ≡ j
        front-is = take_at j (drop m i1) m j-count

        pub built-inside : Inside cloud (take m (j ++ drop m i1))
        built-inside = subst (Inside cloud) (sym (front-is ∙ j-is)) (indices_inside cloud (laid (tree_of cloud)) (omega arith) (tree_of-is cloud))

        module _ (c1 : List Float) (wrote : c1 ≡ overwrite (numbers_of (slots_of cloud (take m (j ++ drop m i1)))) cs) where
          coords-are : c1 ≡ overwrite (numbers_of (laid (tree_of cloud))) cs
          coords-are = wrote ∙ ap (λ (u : List Slot). overwrite (numbers_of u) cs) (ap (slots_of cloud) front-is ∙ tree_is)

          pub success : building cloud cs is ≡ gives (written cloud cs is) → Builds cloud cs is (Ok m) c1 (j ++ drop m i1)
          unfolding written
          success e =
              record {
                answer = ap gives (sym tree-long) ∙ ap (returned (λ w. w.slots)) (sym e);
                coords = coords-are ∙ ap (left (λ w. w.coords) cs) (sym e);
                indices = indices-are ∙ ap (left (λ w. w.indices) is) (sym e);
              }
