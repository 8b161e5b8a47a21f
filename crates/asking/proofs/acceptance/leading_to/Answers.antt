use Rattle.grammar.proofs.Basics.{arith}
use Rattle.bit_machine.proofs.StateWords.{first_bits_none, first_bits_set, first_bits_left}
use Rattle.bit_machine.proofs.StateWords.{leads, leads_not}
use Rattle.asking.proofs.acceptance.leading_to.Invariants.{leading}
use Rattle.asking.proofs.acceptance.leading_to.Goals as goal
use Rattle.asking.proofs.acceptance.leading_to.Goals.{then-done_row-targets-ne0, else-done_row-targets-ne0}

pub loop-q-init : goal.loop-q-init
loop-q-init c = first_bits_none _

pub loop-q-preserved : goal.loop-q-preserved
loop-q-preserved c =
    let h = c.loop-q in
    let row = c.done_row in
    let test = leading c.args.bits.now c.args.symbol c.args.targets in
    elim c.if-done_row-targets-ne0.branch [
      | then-done_row-targets-ne0 w ↦
          rw w.word-is (first_bits_set test _ h.q h.invariant (omega arith)
          (leads _ h.q _ row.result _ (omega arith) (omega arith) row.ensures.done (omega arith) (omega arith)
          w.if-done_row-targets-ne0.true))
      | else-done_row-targets-ne0 w ↦
          rw w.word-is (first_bits_left test _ h.q h.invariant
          (leads_not _ h.q _ row.result _ (omega arith) (omega arith) row.ensures.done
          w.if-done_row-targets-ne0.false))
    ]
