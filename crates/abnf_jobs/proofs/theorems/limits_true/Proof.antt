-- `theorems::limits_true`: no other check refuses by 18 or 7. Assumes nothing.
use Rattle.abnf_jobs.proofs.LimitsMet.{limits_true_lem}
use Rattle.abnf_jobs.proofs.theorems.limits_true.Statement.{statement}
use Rattle.abnf_jobs.proofs.theorems.limits_true.Tie as tie

pub limits_true_spec : {M : Type 1} → statement M
limits_true_spec = tie.close (tie.spec (λ c. limits_true_lem))
