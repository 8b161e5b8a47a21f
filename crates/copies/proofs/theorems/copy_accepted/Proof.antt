-- `theorems::copy_accepted`: the copy is S and then rules that rise. Assumes nothing.
use Rattle.copies.proofs.Copied.{copy_passes}
use Rattle.copies.proofs.theorems.copy_accepted.Statement.{statement}
use Rattle.copies.proofs.theorems.copy_accepted.Tie as tie

pub copy_accepted_spec : {M : Type 1} → statement M
copy_accepted_spec = tie.close (tie.spec (λ c. copy_passes))
