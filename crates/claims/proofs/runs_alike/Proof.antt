-- `claims::runs_alike` meets its contract: what start leaves is alike, and each advance keeps it so. Assumes
-- nothing.
use Rattle.claims.specs.BitsAlike.{RunsAlike}
use Rattle.claims.proofs.BitsAlike.{run_alike}
use Rattle.claims.proofs.runs_alike.Statement.{statement}
use Rattle.claims.proofs.runs_alike.Tie as tie

pub runs_alike_spec : {M : Type 1} → statement M
unfolding RunsAlike
runs_alike_spec = tie.close (tie.spec (λ c. run_alike))
