-- `job::theorems::accepted_in_range` carries the theorem of proofs/AcceptedFacts: each number is read off a record
-- whose fields fit. Assumes nothing.
use Rattle.job.proofs.AcceptedFacts.{accepted_in_range_lem}
use Rattle.job.proofs.theorems.accepted_in_range.Statement.{statement}
use Rattle.job.proofs.theorems.accepted_in_range.Tie as tie

pub accepted_in_range_spec : {M : Type 1} → statement M
accepted_in_range_spec = tie.close (tie.spec (λ c. accepted_in_range_lem))
