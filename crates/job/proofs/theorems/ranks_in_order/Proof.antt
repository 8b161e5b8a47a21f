-- `theorems::ranks_in_order`: the two laws of `RankOrder`. Assumes nothing.
use Rattle.job.proofs.RankOrder.{keys_in_order_lem, ranks_in_order_lem}
use Rattle.job.proofs.theorems.ranks_in_order.Statement.{statement}
use Rattle.job.proofs.theorems.ranks_in_order.Tie as tie

pub ranks_in_order_spec : {M : Type 1} → statement M
ranks_in_order_spec = tie.close (tie.spec (λ c. (keys_in_order_lem, ranks_in_order_lem)))
