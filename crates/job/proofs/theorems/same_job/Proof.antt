-- `job::theorems::same_job` carries the theorem of proofs/OrderFree: each part of what a job says is the same for
-- permuted records. Assumes nothing.
use Rattle.job.proofs.OrderFree.{same_job_lem}
use Rattle.job.proofs.theorems.same_job.Statement.{statement}
use Rattle.job.proofs.theorems.same_job.Tie as tie

pub same_job_spec : {M : Type 1} → statement M
same_job_spec = tie.close (tie.spec (λ c. same_job_lem))
