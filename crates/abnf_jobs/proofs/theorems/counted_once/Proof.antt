-- `theorems::counted_once`: each is put behind those before it only where it is none of them. Assumes nothing.
use Rattle.abnf_jobs.proofs.CountedOnce.{each_once}
use Rattle.abnf_jobs.proofs.theorems.counted_once.Statement.{statement}
use Rattle.abnf_jobs.proofs.theorems.counted_once.Tie as tie

pub counted_once_spec : {M : Type 1} → statement M
counted_once_spec = tie.close (tie.spec (λ c. each_once))
