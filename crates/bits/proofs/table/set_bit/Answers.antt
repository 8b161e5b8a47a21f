-- `set_bit` changes one bit in the word of the place's row. Assumes nothing.
use Rattle.bit_machine.proofs.BitBytes.{row_bit_set}
use Rattle.bits.proofs.table.set_bit.Goals as goal

pub returns : goal.returns
returns c = record { changed = row_bit_set c.row.result c.row.ensures.bits c.with_bit-word.ensures.bits c.write_row.ensures.written }
