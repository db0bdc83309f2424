-- The laws of writing points beside their indices, slot by slot. Assumes nothing.
use mathlib.Core.Path.{◌≡◌, sym, ap, ap₂, ◌∙◌}
use mathlib.Core.List.{List, [], ◌∷◌, ◌++◌}
use Prim.Native.Nat.{ℕ, suc, ◌+◌, ◌*◌, ◌≤◌, ◌<◌}
use native.Mathlib.Numerals.{add-one}
use native.Mathlib.Omega.{arith}
use lib.ListN.{length, get_or, take, drop, set, length-append, length-drop, length-map}
use lib.Seq.{sets-eq, take-suc, take_at, drop-append-add, drop-drop, length-take-le}
use lib.Ieee.{Float}
use Rattle.space.specs.declared.Point3f.{Point3f}
use Rattle.tree.specs.Slots.{point_at, numbers_of}
use Rattle.tree.specs.Refuse.{overwrite}
use Rattle.tree.proofs.Slots.{numbers-append, numbers-length}
use Rattle.select.specs.Order.{slot_of, slots_of}
use Rattle.select.proofs.Order.{slots_of-append}

-- three stores, one after the other
stores : (cs : List Float) (k : ℕ) (p : Point3f) → k + 3 ≤ length cs
    → set (set (set cs k p.x) (k + 1) p.y) (k + 2) p.z ≡ take k cs ++ (p.x ∷ p.y ∷ p.z ∷ []) ++ drop (k + 3) cs
stores cs k p h =
    let two : k + 2 ≡ suc (suc k) = omega arith in
    ap₂ (λ (u v : ℕ). set (set (set cs k p.x) u p.y) v p.z) (add-one k) two ∙ sets-eq (p.x ∷ p.y ∷ p.z ∷ []) cs k h

-- one slot more
pub laid-further : (cloud : List Float) (is : List ℕ) (i : ℕ) (old cs : List Float) → i < length is → 3 * i + 2 < length old
    → cs ≡ overwrite (numbers_of (slots_of cloud (take i is))) old
    → set (set (set cs (3 * i) (point_at cloud (get_or is i 0)).x) (3 * i + 1) (point_at cloud (get_or is i 0)).y) (3 * i + 2) (point_at cloud (get_or is i 0)).z
    ≡ overwrite (numbers_of (slots_of cloud (take (i + 1) is))) old
unfolding numbers_of
laid-further cloud is i old cs h k e =
    stores cs (3 * i) p room
    ∙ ap₂ (λ (u v : List Float). u ++ (p.x ∷ p.y ∷ p.z ∷ []) ++ v) front back
    ∙ ap (λ (u : List Float). u ++ drop (3 * i + 3) old) (sym more)
    ∙ ap (λ (n : ℕ). numbers_of (slots_of cloud (take (i + 1) is)) ++ drop n old) (sym more-long)
  where
    p : Point3f
    p = point_at cloud (get_or is i 0)

    done : List Float
    done = numbers_of (slots_of cloud (take i is))

    done-long : length done ≡ 3 * i
    done-long = numbers-length (slots_of cloud (take i is)) ∙ ap (λ (n : ℕ). 3 * n) (length-map (take i is) (slot_of cloud) ∙ length-take-le i is (omega arith))

    cs-is : cs ≡ done ++ drop (3 * i) old
    cs-is = e ∙ ap (λ (n : ℕ). done ++ drop n old) done-long

    room : 3 * i + 3 ≤ length cs
    room = omega (arith, ap length cs-is, length-append done (drop (3 * i) old), length-drop (3 * i) old, done-long)

    front : take (3 * i) cs ≡ done
    front = ap (take (3 * i)) cs-is ∙ take_at done (drop (3 * i) old) (3 * i) done-long

    back : drop (3 * i + 3) cs ≡ drop (3 * i + 3) old
    back =
        ap₂ (λ (n : ℕ) (u : List Float). drop (n + 3) u) (sym done-long) cs-is
        ∙ drop-append-add done (drop (3 * i) old) 3
        ∙ drop-drop 3 (3 * i) old

    more : numbers_of (slots_of cloud (take (i + 1) is)) ≡ done ++ (p.x ∷ p.y ∷ p.z ∷ [])
    more =
        ap (λ (n : ℕ). numbers_of (slots_of cloud (take n is))) (add-one i)
        ∙ ap (λ (u : List ℕ). numbers_of (slots_of cloud u)) (take-suc is i 0 h)
        ∙ ap numbers_of (slots_of-append cloud (take i is) (get_or is i 0 ∷ []))
        ∙ numbers-append (slots_of cloud (take i is)) (slot_of cloud (get_or is i 0) ∷ [])

    more-long : length (numbers_of (slots_of cloud (take (i + 1) is))) ≡ 3 * i + 3
    more-long = ap length more ∙ length-append done (p.x ∷ p.y ∷ p.z ∷ []) ∙ ap (λ (n : ℕ). n + 3) done-long
