-- `ropeclover::claims::two_runs` meets its contract: call by call, two runs with the same records stay alike, and each
-- run counts right. Assumes nothing.
use Rattle.claims.proofs.TwoRunsAlike.{two_runs}
use Rattle.claims.proofs.two_runs.Statement.{statement}
use Rattle.claims.proofs.two_runs.Tie as tie

pub two_runs_spec : {M : Type 1} → statement M
two_runs_spec = tie.close (tie.spec (λ c. two_runs))
