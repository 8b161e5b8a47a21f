-- `theorems::all_read`: the terminals of the job's rules are those of characters used. Assumes nothing.
use Rattle.abnf_jobs.proofs.SameStrings.{all_read}
use Rattle.abnf_jobs.proofs.theorems.all_read.Statement.{statement}
use Rattle.abnf_jobs.proofs.theorems.all_read.Tie as tie

pub all_read_spec : {M : Type 1} → statement M
all_read_spec = tie.close (tie.spec (λ c. all_read))
