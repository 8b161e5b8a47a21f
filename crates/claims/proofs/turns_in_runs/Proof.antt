-- `ropeclover::claims::turns_in_runs` meets its contract: call by call, reasons fit since a start. Assumes nothing.
use Rattle.claims.proofs.TurnsInRuns.{turns_in_runs_lem}
use Rattle.claims.proofs.turns_in_runs.Statement.{statement}
use Rattle.claims.proofs.turns_in_runs.Tie as tie

pub turns_in_runs_spec : {M : Type 1} → statement M
turns_in_runs_spec = tie.close (tie.spec (λ c. turns_in_runs_lem))
