-- `theorems::step_bit_by_bit` meets its contract: each bit is read back of what the step says. Assumes nothing.
use Rattle.bit_machine.specs.Theorems.Steps.{StepBitByBit}
use Rattle.bit_machine.proofs.BitSteps.{step_in_bits}
use Rattle.bit_machine.proofs.theorems.step_bit_by_bit.Statement.{statement}
use Rattle.bit_machine.proofs.theorems.step_bit_by_bit.Tie as tie

pub step_bit_by_bit_spec : {M : Type 1} → statement M
unfolding StepBitByBit
step_bit_by_bit_spec = tie.close (tie.spec (λ c. step_in_bits))
