-- `claims::calls_alike` meets its contract: the checks of both tables pass on to those of the job, and the byte
-- machine does the same on the bytes of the bit table and on the byte table. Assumes nothing.
use Rattle.claims.specs.BitsAlike.{CallsAlike}
use Rattle.claims.proofs.BitsAlike.{start_alike, advance_alike, ask_alike}
use Rattle.claims.proofs.calls_alike.Statement.{statement}
use Rattle.claims.proofs.calls_alike.Tie as tie

pub calls_alike_spec : {M : Type 1} → statement M
unfolding CallsAlike
calls_alike_spec =
    tie.close
    (tie.spec
    (λ c job bits table long. (
      start_alike job bits table long,
      λ alike. (advance_alike job bits table long alike, ask_alike job bits table long alike),
    )))
