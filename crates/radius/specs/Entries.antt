-- Document 01, "Radius" as an entry: the refusals in their order, what is returned and what each lent list holds afterwards. Definitions only.
use Rattle.std.specs.Prelude.{◌≡◌, true, List, [], ℕ, length, Result, Float}
use Rattle.std.specs.Float.Ieee.{is_nan, le}
use Rattle.bits.specs.Constants.{nought}
use Rattle.space.specs.declared.Point3f.{Point3f}
use Rattle.tree.specs.Refuse.{Outcome}
use Rattle.tree.specs.declared.Refusal.{Refusal}
use Rattle.tree.specs.Slots.{slots}
use Rattle.tree.specs.Part.{laid, lent}
use Rattle.tree.specs.Cloud.{tree_of}
use Rattle.lists.specs.Entry.{Entry, roots_in}
use Rattle.lists.specs.Radius.{in_radius, in_radius_all}
use Rattle.lists.specs.Entries.{listing, Written}

-- "radius m in each list, m the length of the tree's indices", whatever the radius is
unfoldable pub radius_listing : List Float → List ℕ → Point3f → Float → List ℕ → List Float → Outcome (List Entry)
unfolding in_radius lent
radius_listing coords indices q r is ds = listing coords indices is ds (length indices) (in_radius q r (lent coords indices))

-- Radius as an entry; "roots are handed out". On the slots of a cloud's tree the entries are "every indexed point with squared distance <= r·r".
pub record RadiusWritten (coords : List Float) (indices : List ℕ) (q : Point3f) (r : Float) (is : List ℕ) (ds : List Float) (answer : Result ℕ Refusal) (is' : List ℕ) (ds' : List Float) : Type 0 where
  pub written : Written (radius_listing coords indices q r is ds) roots_in is ds answer is' ds'
  pub built : (cloud : List Float) → slots coords indices ≡ laid (tree_of cloud) → in_radius q r (lent coords indices) ≡ in_radius_all q r (tree_of cloud)
  -- "Radius <= 0 or NaN gives an empty list"
  pub at_most_zero : le r nought ≡ true → in_radius q r (lent coords indices) ≡ []
  pub no_number : is_nan r ≡ true → in_radius q r (lent coords indices) ≡ []
