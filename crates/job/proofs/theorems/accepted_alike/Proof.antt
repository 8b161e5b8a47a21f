-- `job::theorems::accepted_alike` carries the theorem of proofs/OrderFree: what is accepted is said without the order
-- of the records. Assumes nothing.
use Rattle.job.proofs.OrderFree.{accepted_alike_lem}
use Rattle.job.proofs.theorems.accepted_alike.Statement.{statement}
use Rattle.job.proofs.theorems.accepted_alike.Tie as tie

pub accepted_alike_spec : {M : Type 1} → statement M
accepted_alike_spec = tie.close (tie.spec (λ c. accepted_alike_lem))
