-- `theorems::map_is_used`: the list of the characters used ascends, and the map begins with it. Assumes nothing.
use Rattle.abnf_jobs.proofs.UsedMap.{map_is_used_lem}
use Rattle.abnf_jobs.proofs.theorems.map_is_used.Statement.{statement}
use Rattle.abnf_jobs.proofs.theorems.map_is_used.Tie as tie

pub map_is_used_spec : {M : Type 1} → statement M
map_is_used_spec = tie.close (tie.spec (λ c. map_is_used_lem))
