-- `theorems::written_accepted`: the job is S and then distinct rules in range. Assumes nothing.
use Rattle.abnf_jobs.proofs.WrittenAccepted.{written_accepted_lem}
use Rattle.abnf_jobs.proofs.theorems.written_accepted.Statement.{statement}
use Rattle.abnf_jobs.proofs.theorems.written_accepted.Tie as tie

pub written_accepted_spec : {M : Type 1} → statement M
written_accepted_spec = tie.close (tie.spec (λ c. written_accepted_lem))
