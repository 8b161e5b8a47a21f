-- `binarize::theorems::written_accepted` meets its contract: each record written passes the checks after those before
-- it. Assumes nothing.
use Rattle.long_jobs.proofs.JobAccepted.{written_accepted_lem}
use Rattle.long_jobs.proofs.theorems.written_accepted.Statement.{statement}
use Rattle.long_jobs.proofs.theorems.written_accepted.Tie as tie

returns : tie.Need-returns
returns c = written_accepted_lem

pub written_accepted_spec : {M : Type 1} → statement M
written_accepted_spec = tie.close (tie.spec returns)
