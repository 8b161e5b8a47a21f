-- `theorems::copy_of_copy`: all symbols of a copy are useful and numbered without gaps. Assumes nothing.
use Rattle.copies.proofs.Copied.{copied_again}
use Rattle.copies.proofs.theorems.copy_of_copy.Statement.{statement}
use Rattle.copies.proofs.theorems.copy_of_copy.Tie as tie

pub copy_of_copy_spec : {M : Type 1} → statement M
copy_of_copy_spec = tie.close (tie.spec (λ c. copied_again))
