-- What holds where matching refuses nothing.
use Prim.Native.Nat.{ℕ, ◌*◌, ◌/◌, ◌%◌}
use native.Mathlib.Nat.{pos_of_ne-zero}
use native.Mathlib.Omega.{arith}
use mathlib.Core.Path.{◌≡◌, refl}
use mathlib.Core.Bool.{Bool, true, false, ◌||◌}
use mathlib.Core.List.{List}
use lib.ListN.{length}
use lib.Dec.{eqb}
use lib.Ieee.{Float}
use borrow.Author.Tests.{ltb-false, eqb-true, eqb-false, not-false}
use Rattle.tree.specs.Refuse.{Outcome, refused, gives, count, ragged, uneven, mismatched, too_many, has_none, any_entry_outside, any_index_outside}
use Rattle.matching.specs.Refusals.{in_order, one, two, four, five, on_matching, Clear}
use Rattle.tree.proofs.Outside.{neither}

-- where nothing is refused no condition is met
calm : (a b c d : Bool) → ◌≡◌ {A = Outcome (Unit {0})} (gives tt) (in_order a b c d (gives tt)) → (a ≡ false) × (b ≡ false) × (c ≡ false) × (d ≡ false)
calm true b c d e = absurd (let z : ◌≡◌ {A = ℕ} 0 1 = cc in omega arith)
calm false true c d e = absurd (let z : ◌≡◌ {A = ℕ} 0 1 = cc in omega arith)
calm false false true true e = absurd (let z : ◌≡◌ {A = ℕ} 0 1 = cc in omega arith)
calm false false true false e = absurd (let z : ◌≡◌ {A = ℕ} 0 1 = cc in omega arith)
calm false false false true e = absurd (let z : ◌≡◌ {A = ℕ} 0 1 = cc in omega arith)
calm false false false false e = (refl, refl, refl, refl)

-- and what is refused is refused whatever would be given
alike : {A : Type 0} (a b c d : Bool) (n : ℕ) (next : Outcome A) → ◌≡◌ {A = Outcome (Unit {0})} (refused n) (in_order a b c d (gives tt)) → refused n ≡ in_order a b c d next
alike true b c d n next e = cc
alike false true c d n next e = cc
alike false false true true n next e = cc
alike false false true false n next e = cc
alike false false false true n next e = cc
alike false false false false n next e = absurd (let z : ◌≡◌ {A = ℕ} 0 1 = cc in omega arith)

-- a length with nothing left over is three to a point
whole : (n : ℕ) → eqb (n % 3) 0 ≡ true → n ≡ 3 * (n / 3)
whole n e = let h = eqb-true (n % 3) 0 e in omega arith

module _ (source target coords : List Float) (indices matches : List ℕ) where
  abbrev pub Ruled : Outcome (Unit {0}) → Type 0
  Ruled o = o ≡ on_matching source target coords indices matches (gives tt)

  pub refused-too : {A : Type 0} (n : ℕ) (next : Outcome A) → Ruled (refused n) → refused n ≡ on_matching source target coords indices matches next
  refused-too n next e =
      alike (one source target coords indices matches) (two source target coords indices matches) (four source target coords indices matches) (five source target coords indices matches) n next e

  none-met : Ruled (gives tt)
      → (one source target coords indices matches ≡ false) × (two source target coords indices matches ≡ false) × (four source target coords indices matches ≡ false) × (five source target coords indices matches ≡ false)
  none-met e = calm (one source target coords indices matches) (two source target coords indices matches) (four source target coords indices matches) (five source target coords indices matches) e

  pub free-too : {A : Type 0} (next : Outcome A) → Ruled (gives tt) → next ≡ on_matching source target coords indices matches next
  free-too next e = let p = none-met e in simp (p.0, p.1, p.2, p.3)

  pub clear : Ruled (gives tt) → Clear source target coords indices matches
  clear e =
      let a = ragged source in
      let b = ragged target in
      let c = uneven coords indices in
      let d = mismatched source matches in
      let f = too_many (count source) in
      let g = too_many (count target) in
      let h = too_many (length indices) in
      let k = too_many (length matches) in
      let p = none-met e in
      let abc = neither (a || b || c) d p.0 in
      let ab = neither (a || b) c abc.0 in
      let whole-clouds = neither a b ab.0 in
      let fgh = neither (f || g || h) k p.1 in
      let fg = neither (f || g) h fgh.0 in
      let out = neither (any_entry_outside (count target) matches) (any_index_outside (count target) indices) p.3 in
      let entries : length matches ≡ length source / 3 = eqb-true _ _ (not-false _ abc.1) in
      let threes : length source ≡ 3 * (length source / 3) = whole (length source) (not-false _ whole-clouds.0) in
      record {
        source_whole = omega arith;
        target_whole = whole (length target) (not-false _ whole-clouds.1);
        tree_whole = eqb-true _ _ (not-false _ ab.1);
        some_target = pos_of_ne-zero (eqb-false _ _ (neither (has_none source) (has_none target) p.2).1);
        few_targets = ltb-false _ _ (neither f g fg.0).1;
        few_slots = ltb-false _ _ fg.1;
        few_matches = ltb-false _ _ fgh.1;
        seeds_inside = out.0;
        indices_inside = out.1;
      }
