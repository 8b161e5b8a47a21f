-- `theorems::rest_of_bits_is_kept` meets its contract: bits are written in the two halves alone, and reasons as on
-- bytes. Assumes nothing.
use Rattle.bit_machine.specs.Theorems.Kept.{RestOfBitsIsKept}
use Rattle.bit_machine.proofs.FirstBits.{started_bits_keep, steps_bits_keep}
use Rattle.bit_machine.proofs.theorems.rest_of_bits_is_kept.Statement.{statement}
use Rattle.bit_machine.proofs.theorems.rest_of_bits_is_kept.Tie as tie

pub rest_of_bits_is_kept_spec : {M : Type 1} → statement M
unfolding RestOfBitsIsKept
rest_of_bits_is_kept_spec = tie.close (tie.spec (λ c m. (λ J. started_bits_keep J m, λ ρs n. steps_bits_keep ρs n m)))
