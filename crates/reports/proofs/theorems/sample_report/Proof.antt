-- `reports::theorems::sample_report` carries the theorem of proofs/Sample. Assumes nothing.
use Rattle.reports.proofs.Sample.{sample_report_lem}
use Rattle.reports.proofs.theorems.sample_report.Statement.{statement}
use Rattle.reports.proofs.theorems.sample_report.Tie as tie

pub sample_report_spec : {M : Type 1} → statement M
sample_report_spec = tie.close (tie.spec (λ c. sample_report_lem))
