-- `copy_rows` writes the four rows one after the other. Assumes nothing.
use Rattle.grammar.proofs.Basics.{add-zero, ◌+◌, arith}
use Rattle.bit_machine.specs.BitTable.{table_of_bits}
use Rattle.bit_machine.specs.Inside.Index.{RowIs}
use Rattle.bit_machine.proofs.Columns.{written_four}
use Rattle.columns.specs.Places.{places_of}
use Rattle.columns.proofs.turn.copy_rows.Goals as goal

pub returns : goal.returns
returns c =
    record {
      copied =
          written_four _ _ (λ i w. RowIs (places_of c.args.places (table_of_bits c.args.bits.now)) (c.args.k + i) w)
          (omega arith) (rw add-zero c.row-first.ensures.row) c.row-second.ensures.row
          c.row-third.ensures.row
          c.row-fourth.ensures.row;
    }
