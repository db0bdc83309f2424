-- From what the code has computed to what the entries answer. Assumes nothing.
use mathlib.Core.Path.{◌≡◌, sym, ap, ◌∙◌}
use mathlib.Core.Bool.{true, false}
use mathlib.Core.List.{List}
use Rattle.std.proofs.Common.{None, Some}
use lib.Ieee.{Float}
use Rattle.space.specs.declared.Point3f.{Point3f}
use Rattle.sums.specs.declared.Vector3d.{Vector3d}
use Rattle.sums.specs.Vector.{narrow_point}
use Rattle.frame.specs.declared.Moments.{Moments}
use Rattle.frame.specs.declared.CloudScale.{CloudScale}
use Rattle.frame.specs.declared.LocalFrame.{LocalFrame}
use Rattle.frame.specs.Moments.{moments_of, mean}
use Rattle.frame.specs.Frame.{radius, scale_of, frame_on, near, frame_of}

module _ (cloud : List Float) {m : Moments} (e : m ≡ moments_of cloud) {v : Vector3d} (f : v ≡ mean m) where
  pub frame_is : record { origin = v } ≡ frame_on cloud
  unfolding frame_on
  frame_is = rw (f, e)

  pub scale-is : (p : Point3f) (r : Float) → p ≡ narrow_point v → r ≡ radius m → record { centroid = p; radius = r } ≡ scale_of cloud
  unfolding scale_of
  scale-is p r a b = rw (a, b, f, e)

pub no-frame : (cloud : List Float) (s : CloudScale) → s ≡ scale_of cloud → near s ≡ true → None ≡ frame_of cloud
unfolding frame_of
no-frame cloud s e n = rw (sym (ap near e) ∙ n)

pub a-frame : (cloud : List Float) (s : CloudScale) → s ≡ scale_of cloud → near s ≡ false → (f : LocalFrame) → f ≡ frame_on cloud → Some f ≡ frame_of cloud
unfolding frame_of
a-frame cloud s e n f g = rw (sym (ap near e) ∙ n, g)
