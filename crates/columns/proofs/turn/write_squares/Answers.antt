use Rattle.bit_machine.proofs.Columns.{written_none, square_written}
use Rattle.columns.proofs.turn.write_squares.Goals as goal

pub loop-x-init : goal.loop-x-init
loop-x-init c = written_none _ _ _

pub loop-x-preserved : goal.loop-x-preserved
loop-x-preserved c =
    square_written c.args.words.now c.args.at c.loop-x.x c.loop-x.invariant c.write_square.ensures.written
