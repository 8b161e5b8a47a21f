-- `theorems::copies_alike`: sorted rules are told by their members. Assumes nothing.
use Rattle.copies.proofs.Copied.{copies_same}
use Rattle.copies.proofs.theorems.copies_alike.Statement.{statement}
use Rattle.copies.proofs.theorems.copies_alike.Tie as tie

pub copies_alike_spec : {M : Type 1} → statement M
copies_alike_spec = tie.close (tie.spec (λ c. copies_same))
