-- `reports::theorems::reports_mean` carries the theorem of proofs/Means. Assumes nothing.
use Rattle.reports.proofs.Means.{reports_mean_lem}
use Rattle.reports.proofs.theorems.reports_mean.Statement.{statement}
use Rattle.reports.proofs.theorems.reports_mean.Tie as tie

pub reports_mean_spec : {M : Type 1} → statement M
reports_mean_spec = tie.close (tie.spec (λ c. reports_mean_lem))
