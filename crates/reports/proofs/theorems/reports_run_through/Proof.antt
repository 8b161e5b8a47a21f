-- `theorems::reports_run_through` meets its contract, by the law of its name. Assumes nothing.
use Rattle.reports.specs.Theorems.{ReportsRunThrough}
use Rattle.reports.proofs.Through.{runs_through}
use Rattle.reports.proofs.theorems.reports_run_through.Statement.{statement}
use Rattle.reports.proofs.theorems.reports_run_through.Tie as tie

pub reports_run_through_spec : {M : Type 1} → statement M
unfolding ReportsRunThrough
reports_run_through_spec = tie.close (tie.spec (λ c. runs_through))
