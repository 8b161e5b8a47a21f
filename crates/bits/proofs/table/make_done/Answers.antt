-- `make_done` clears one bit and sets the other. Assumes nothing.
use Rattle.bit_machine.proofs.Changing.{done_written}
use Rattle.bits.proofs.table.make_done.Goals as goal

pub returns : goal.returns
returns c =
    let both =
    done_written _ _ _ _ c.requires.within.0 c.requires.pending c.set_bit.ensures.changed c.set_bit-2.ensures.changed
    in
    record { written = both.0; kept = both.1 }
