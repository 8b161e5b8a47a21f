-- `theorems::step_turns_bits` meets its contract: it is the step of the byte table that says the same, whose done
-- places are the ones of the done half. Assumes nothing.
use Rattle.bit_machine.proofs.BitTurns.{step_turns_bits_lem}
use Rattle.bit_machine.proofs.theorems.step_turns_bits.Statement.{statement}
use Rattle.bit_machine.proofs.theorems.step_turns_bits.Tie as tie

pub step_turns_bits_spec : {M : Type 1} → statement M
step_turns_bits_spec = tie.close (tie.spec (λ c. step_turns_bits_lem))
