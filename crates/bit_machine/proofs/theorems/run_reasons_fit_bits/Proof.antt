-- `theorems::run_reasons_fit_bits` meets its contract: a start and steps on bits leave the bytes of a start and steps
-- on bytes, whose reasons fit. Assumes nothing.
use Rattle.bit_machine.proofs.BitTurns.{run_reasons_fit_bits_lem}
use Rattle.bit_machine.proofs.theorems.run_reasons_fit_bits.Statement.{statement}
use Rattle.bit_machine.proofs.theorems.run_reasons_fit_bits.Tie as tie

pub run_reasons_fit_bits_spec : {M : Type 1} → statement M
run_reasons_fit_bits_spec = tie.close (tie.spec (λ c. run_reasons_fit_bits_lem))
