-- `theorems::wider_checks`: the two laws of `Wider`. Assumes nothing.
use Rattle.job.proofs.Wider.{wider_checks_lem, pairs_widened}
use Rattle.job.proofs.theorems.wider_checks.Statement.{statement}
use Rattle.job.proofs.theorems.wider_checks.Tie as tie

pub wider_checks_spec : {M : Type 1} → statement M
wider_checks_spec = tie.close (tie.spec (λ c. (wider_checks_lem, pairs_widened)))
