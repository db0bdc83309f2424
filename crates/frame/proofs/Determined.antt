-- Each entry's promise fixes its answer: two answers that it allows are the same. Assumes nothing.
use mathlib.Core.Path.{◌≡◌, sym, ◌∙◌}
use mathlib.Core.List.{List}
use lib.Ieee.{Float}
use Rattle.std.proofs.Common.{Option, Result}
use Rattle.tree.specs.Refusal.{outcome_of}
use Rattle.tree.specs.declared.Refusal.{Refusal}
use Rattle.tree.proofs.Outcomes.{outcome-tells}
use Rattle.frame.specs.declared.CloudScale.{CloudScale}
use Rattle.frame.specs.Entries.{scale_in, centred_in, frame_in}
use Rattle.frame.specs.Frame.{local_point}
use Rattle.frame.specs.declared.LocalFrame.{LocalFrame}
use Rattle.space.specs.declared.Point3f.{Point3f}
use Rattle.bits.proofs.Determined.{value-determined}

-- `CloudScale::of`
pub scale-determined : (cloud : List Float) (r s : Result CloudScale Refusal) → outcome_of r ≡ scale_in cloud → outcome_of s ≡ scale_in cloud → r ≡ s
scale-determined cloud r s p q = outcome-tells r s (p ∙ sym q)

-- `LocalFrame::centred_on`
pub centred-determined : (cloud : List Float) (r s : Result LocalFrame Refusal) → outcome_of r ≡ centred_in cloud → outcome_of s ≡ centred_in cloud → r ≡ s
centred-determined cloud r s p q = outcome-tells r s (p ∙ sym q)

-- `LocalFrame::if_far_from_origin`
pub frame-determined : (cloud : List Float) (r s : Result (Option LocalFrame) Refusal) → outcome_of r ≡ frame_in cloud → outcome_of s ≡ frame_in cloud → r ≡ s
frame-determined cloud r s p q = outcome-tells r s (p ∙ sym q)

-- `LocalFrame::point_to_local`
pub local-determined : (f : LocalFrame) (p r s : Point3f) → r ≡ local_point f p → s ≡ local_point f p → r ≡ s
local-determined f p r s = value-determined
