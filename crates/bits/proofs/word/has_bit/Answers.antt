-- `has_bit` shifts the word by the bit's number. Assumes nothing.
use Rattle.bit_machine.proofs.BitBytes.{bit_test}
use Rattle.bits.proofs.word.has_bit.Goals as goal

pub returns : goal.returns
returns c = record { bit = bit_test _ _ }
