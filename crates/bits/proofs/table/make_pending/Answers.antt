-- `make_pending` sets the one bit. Assumes nothing.
use Rattle.bit_machine.proofs.Changing.{pending_written}
use Rattle.bits.proofs.table.make_pending.Goals as goal

pub returns : goal.returns
returns c =
    let both = pending_written _ _ _ c.requires.within.0 c.requires.notDone c.set_bit.ensures.changed in
    record { written = both.0; kept = both.1 }
