-- `theorems::same_strings`: each production of the text is a derivation by the job, and each rule of the job means
-- what the text says. Assumes nothing.
use Rattle.abnf_jobs.proofs.SameStrings.{same_strings_lem}
use Rattle.abnf_jobs.proofs.theorems.same_strings.Statement.{statement}
use Rattle.abnf_jobs.proofs.theorems.same_strings.Tie as tie

pub same_strings_spec : {M : Type 1} → statement M
same_strings_spec = tie.close (tie.spec (λ c. same_strings_lem))
