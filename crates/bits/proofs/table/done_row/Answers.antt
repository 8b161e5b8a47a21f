-- `done_row` is the row of the done half. Assumes nothing.
use Rattle.grammar.proofs.Basics.{◌∙◌, sym, arith}
use Rattle.bit_machine.proofs.Changing.{done_bit}
use Rattle.bits.proofs.table.done_row.Goals as goal

pub returns : goal.returns
returns c = record { done = λ j l. c.row.ensures.bits j l ∙ sym (done_bit _ _ (omega arith)) }
