-- `ropeclover::claims::wider_classes` meets its contract: checks and canonical job are all that a run depends on.
-- Assumes nothing.
use Rattle.claims.proofs.WiderRuns.{wider_classes_lem}
use Rattle.claims.proofs.wider_classes.Statement.{statement}
use Rattle.claims.proofs.wider_classes.Tie as tie

pub wider_classes_spec : {M : Type 1} → statement M
wider_classes_spec = tie.close (tie.spec (λ c. wider_classes_lem))
