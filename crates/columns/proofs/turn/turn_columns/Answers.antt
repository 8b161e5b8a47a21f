use Rattle.grammar.proofs.Basics.{arith}
use Rattle.bit_machine.proofs.Columns.{columns_none, columns_more}
use Rattle.columns.proofs.turn.turn_columns.Goals as goal

pub loop-c-init : goal.loop-c-init
loop-c-init c = (omega arith, columns_none _ _ _)

pub loop-c-preserved : goal.loop-c-preserved
loop-c-preserved c =
    (c.turn_group.ensures.sized, columns_more c.loop-c.invariant.1 c.turn_group.ensures.turned)
