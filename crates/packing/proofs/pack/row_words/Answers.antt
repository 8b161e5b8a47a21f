use Rattle.grammar.proofs.Basics.{◌≡◌, arith}
use Rattle.machine.specs.Table.{is_pending_lem, is_done_lem}
use Rattle.bit_machine.proofs.StateWords.{first_bits_none, first_bits_more, first_bits_all}
use Rattle.packing.proofs.pack.row_words.Invariants.{in_row}
use Rattle.packing.proofs.pack.row_words.Goals as goal

pub loop-j-init : goal.loop-j-init
loop-j-init c = (first_bits_none _, first_bits_none _)

pub loop-j-preserved : goal.loop-j-preserved
loop-j-preserved c =
    let l = c.loop-j in
    let table = c.args.table.now in (
      first_bits_more (in_row is_pending_lem table c.args.k) l.pending _ l.j _ l.invariant.0 c.is_pending.ensures.says
          c.with_bit-pending.ensures.bits,
      first_bits_more (in_row is_done_lem table c.args.k) l.done _ l.j _ l.invariant.1 c.is_done.ensures.says
          c.with_bit-done.ensures.bits,
    )

pub returns : goal.returns
returns c = let l = c.loop-j in
    let end : l.j ≡ 32 = omega arith in record {
      pending = first_bits_all _ l.pending (rw end at l.invariant.0);
      done = first_bits_all _ l.done (rw end at l.invariant.1);
    }
