-- An entry that promises `r ≡ v` fixes its answer: every function of this crate, and those of the crates above that hand out one value. Assumes nothing.
use Rattle.std.proofs.Common.{◌≡◌, sym, ◌∙◌}

pub value-determined : {A : Type 0} {v r s : A} → r ≡ v → s ≡ v → r ≡ s
value-determined p q = p ∙ sym q
