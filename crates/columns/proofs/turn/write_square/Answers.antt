use Rattle.grammar.proofs.Basics.{refl, arith}
use Rattle.bit_machine.proofs.Columns.{written_none, written_more}
use Rattle.columns.proofs.turn.write_square.Goals as goal

pub loop-r-init : goal.loop-r-init
loop-r-init c = written_none _ _ _

pub loop-r-preserved : goal.loop-r-preserved
loop-r-preserved c =
    written_more _ c.loop-r.invariant _ (omega arith) refl
