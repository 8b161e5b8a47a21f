-- `theorems::empty_copy`: no symbol of an empty language is useful. Assumes nothing.
use Rattle.copies.proofs.Copied.{start_alone}
use Rattle.copies.proofs.theorems.empty_copy.Statement.{statement}
use Rattle.copies.proofs.theorems.empty_copy.Tie as tie

pub empty_copy_spec : {M : Type 1} → statement M
empty_copy_spec = tie.close (tie.spec (λ c. start_alone))
