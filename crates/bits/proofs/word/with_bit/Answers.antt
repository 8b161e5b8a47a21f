-- `with_bit` is an or with one bit, or an and with all bits but one. Assumes nothing.
use Rattle.bit_machine.proofs.BitBytes.{bit_after_set, bit_after_clear}
use Rattle.bits.proofs.word.with_bit.Goals as goal

pub returns-then-value : goal.returns-then-value
returns-then-value c = record { bits = λ b l. rw c.if-value.true (bit_after_set 32 _ _ b c.requires.within) }

pub returns-else-value : goal.returns-else-value
returns-else-value c = record { bits = λ b l. rw c.if-value.false (bit_after_clear 32 _ _ b c.requires.within l) }
