-- `theorems::start_is_first`: the name of the first line is the first of the names. Assumes nothing.
use Rattle.abnf_jobs.proofs.FirstLine.{start_is_first_lem}
use Rattle.abnf_jobs.proofs.theorems.start_is_first.Statement.{statement}
use Rattle.abnf_jobs.proofs.theorems.start_is_first.Tie as tie

pub start_is_first_spec : {M : Type 1} → statement M
start_is_first_spec = tie.close (tie.spec (λ c. start_is_first_lem))
