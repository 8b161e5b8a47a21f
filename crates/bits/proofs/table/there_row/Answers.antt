-- `there_row` has the ones of either half. Assumes nothing.
use Rattle.grammar.proofs.Basics.{◌∙◌, sym, ap₂, ◌||◌, arith}
use Rattle.bit_machine.proofs.BitLaws.{bit_or_lem}
use Rattle.bit_machine.proofs.Changing.{there_bits}
use Rattle.bits.proofs.table.there_row.Goals as goal

pub returns : goal.returns
returns c =
    record {
      there =
          λ j l. bit_or_lem _ _ j ∙ ap₂ ◌||◌ (c.row.ensures.bits j l) (c.row-2.ensures.bits j l) ∙ sym (there_bits _ _
          (omega arith));
    }
