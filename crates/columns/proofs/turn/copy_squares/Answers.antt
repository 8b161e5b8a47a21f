use Rattle.bit_machine.specs.BitTable.{table_of_bits}
use Rattle.bit_machine.proofs.Columns.{written_none, rows_copied}
use Rattle.columns.specs.Places.{places_of}
use Rattle.columns.proofs.turn.copy_squares.Goals as goal

pub loop-q-init : goal.loop-q-init
loop-q-init c = written_none _ _ _

pub loop-q-preserved : goal.loop-q-preserved
loop-q-preserved c =
    rows_copied (places_of c.args.places (table_of_bits c.args.bits.now)) c.args.c c.loop-q.q
    c.loop-q.invariant c.copy_rows.ensures.copied c.copy_rows-in-loop-q.ensures.copied
