-- `theorems::copy_in_order`: the rules of the copy are sorted as they stand. Assumes nothing.
use Rattle.copies.proofs.Copied.{copy_in_order_lem}
use Rattle.copies.proofs.theorems.copy_in_order.Statement.{statement}
use Rattle.copies.proofs.theorems.copy_in_order.Tie as tie

pub copy_in_order_spec : {M : Type 1} → statement M
copy_in_order_spec = tie.close (tie.spec (λ c. copy_in_order_lem))
