-- What a bit pattern above zero is worth in squares of its format's smallest value, over either format. Assumes nothing.
use Rattle.std.proofs.Common.{◌≡◌, ℕ, ◌+◌, ◌-◌, ◌*◌, ◌/◌, ◌%◌, ◌^◌, ◌<◌, ◌≤◌, subst, arith}
use lib.Ieee.{Format, binary32, binary64, prec, low, hid, ones}
use Rattle.bits.specs.Scaled.{IsScaled}
use Rattle.bits.proofs.RootBits.{low_value, mid-value}

pub subnormal : (f : Format) (b h l : ℕ) → hid f ≡ h → low f ≡ l → 0 < b → b < h → IsScaled f b b l
subnormal f b h l x y p q = subst (λ (l : ℕ). IsScaled f b b l) y (go f (rw (← x) at q))
  where
    go : (f : Format) → b < hid f → IsScaled f b b (low f)
    go binary32 q = record { some = p; few = omega arith; least = omega arith; most = omega arith; value = low_value binary32 b q }
    go binary64 q = record { some = p; few = omega arith; least = omega arith; most = omega arith; value = low_value binary64 b q }

pub normal : (f : Format) (b h l : ℕ) → hid f ≡ h → low f ≡ l → h ≤ b → b < ones f * hid f → IsScaled f b (b % h + h) (b / h + (l - 1))
normal f b h l x y p q =
    subst (λ (h : ℕ). h ≤ b → IsScaled f b (b % h + h) (b / h + (l - 1))) x (subst (λ (l : ℕ). hid f ≤ b → IsScaled f b (b % hid f + hid f) (b / hid f + (l - 1))) y (go f q)) p
  where
    go : (f : Format) → b < ones f * hid f → hid f ≤ b → IsScaled f b (b % hid f + hid f) (b / hid f + (low f - 1))
    go binary32 q p = record { some = omega arith; few = omega arith; least = omega arith; most = omega arith; value = mid-value binary32 b p q }
    go binary64 q p = record { some = omega arith; few = omega arith; least = omega arith; most = omega arith; value = mid-value binary64 b p q }

-- what the steps to the root need: p digits at the most, and an exponent that is neither small nor great
pub record Roomy (p m a : ℕ) : Type 0 where
  pub few : p ≤ 53
  pub held : m < 2 ^ p
  pub room : 2 * p ≤ a
  pub bound : a ≤ 4096

pub roomy : (f : Format) (b p m a : ℕ) → prec f ≡ p → IsScaled f b m a → Roomy p m a
roomy f b p m a e s = subst (λ (p : ℕ). Roomy p m a) e (go f s)
  where
    go : (f : Format) → IsScaled f b m a → Roomy (prec f) m a
    go binary32 s = let l = s.least in let t = s.most in record { few = omega arith; held = s.few; room = omega arith; bound = omega arith }
    go binary64 s = let l = s.least in let t = s.most in record { few = omega arith; held = s.few; room = omega arith; bound = omega arith }
