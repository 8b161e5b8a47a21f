-- `theorems::steps_bits_add_up` meets its contract: the bytes of a steps are read back as they were written, so the
-- next b go on from them, and count from there. Assumes nothing.
use Rattle.bit_machine.specs.Theorems.Steps.{StepsBitsAddUp}
use Rattle.bit_machine.proofs.BitSteps.{joined_bits}
use Rattle.bit_machine.proofs.theorems.steps_bits_add_up.Statement.{statement}
use Rattle.bit_machine.proofs.theorems.steps_bits_add_up.Tie as tie

pub steps_bits_add_up_spec : {M : Type 1} → statement M
unfolding StepsBitsAddUp
steps_bits_add_up_spec = tie.close (tie.spec (λ c. joined_bits))
