-- `pending_row` has the ones of the pending half that are not ones of the done half. Assumes nothing.
use Rattle.grammar.proofs.Basics.{◌∙◌, sym, ap, ap₂, ◌&&◌, not, arith}
use Rattle.bit_machine.proofs.BitLaws.{bit_and_lem, bit_not}
use Rattle.bit_machine.proofs.Changing.{pending_bits}
use Rattle.bits.proofs.table.pending_row.Goals as goal

pub returns : goal.returns
returns c =
    record {
      pending =
          λ j l. bit_and_lem _ _ j
          ∙ ap₂ ◌&&◌ (c.row.ensures.bits j l) (bit_not 32 _ j (omega arith) l ∙ ap not (c.row-2.ensures.bits j l))
          ∙ sym (pending_bits _ _ (omega arith));
    }
