-- `job::theorems::check_accepts` carries the theorem of proofs/Accepted: the walk refuses nothing exactly where the
-- records are sound. Assumes nothing.
use Rattle.job.proofs.Accepted.{check_accepts_lem}
use Rattle.job.proofs.theorems.check_accepts.Statement.{statement}
use Rattle.job.proofs.theorems.check_accepts.Tie as tie

pub check_accepts_spec : {M : Type 1} → statement M
check_accepts_spec = tie.close (tie.spec (λ c. check_accepts_lem))
