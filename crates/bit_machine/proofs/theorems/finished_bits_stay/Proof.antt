-- `theorems::finished_bits_stay` meets its contract: the byte table that says the same stands still, and its bits are
-- written as they were. Assumes nothing.
use Rattle.bit_machine.specs.Theorems.Kept.{FinishedBitsStay}
use Rattle.bit_machine.proofs.BitsKept.{stand_still}
use Rattle.bit_machine.proofs.theorems.finished_bits_stay.Statement.{statement}
use Rattle.bit_machine.proofs.theorems.finished_bits_stay.Tie as tie

pub finished_bits_stay_spec : {M : Type 1} → statement M
unfolding FinishedBitsStay
finished_bits_stay_spec = tie.close (tie.spec (λ c. stand_still))
