-- `theorems::written_in_order`: rules put in order one by one are sorted as they stand. Assumes nothing.
use Rattle.abnf_jobs.proofs.InOrder.{written_in_order_lem}
use Rattle.abnf_jobs.proofs.theorems.written_in_order.Statement.{statement}
use Rattle.abnf_jobs.proofs.theorems.written_in_order.Tie as tie

pub written_in_order_spec : {M : Type 1} → statement M
written_in_order_spec = tie.close (tie.spec (λ c. written_in_order_lem))
