-- `job::theorems::state_count_is_least` carries the theorem of proofs/States: the number of states is a maximum over
-- the records. Assumes nothing.
use Rattle.job.proofs.States.{state_count_lem}
use Rattle.job.proofs.theorems.state_count_is_least.Statement.{statement}
use Rattle.job.proofs.theorems.state_count_is_least.Tie as tie

pub state_count_is_least_spec : {M : Type 1} → statement M
state_count_is_least_spec = tie.close (tie.spec (λ c. state_count_lem))
