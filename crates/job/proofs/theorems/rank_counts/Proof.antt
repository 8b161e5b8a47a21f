-- `job::theorems::rank_counts` carries the theorem of proofs/OrderFree: the sorted rules rise strictly by the key.
-- Assumes nothing.
use Rattle.job.proofs.OrderFree.{rank_counts_lem}
use Rattle.job.proofs.theorems.rank_counts.Statement.{statement}
use Rattle.job.proofs.theorems.rank_counts.Tie as tie

pub rank_counts_spec : {M : Type 1} → statement M
rank_counts_spec = tie.close (tie.spec (λ c. rank_counts_lem))
