-- `turn_group` leaves columns of zeros where no row has a one, and else writes the squares turned. Assumes nothing.
use Rattle.grammar.proofs.Basics.{◌∙◌}
use Rattle.bit_machine.specs.BitTable.{table_of_bits}
use Rattle.bit_machine.proofs.Columns.{group_turned, group_blank}
use Rattle.columns.specs.Places.{places_of}
use Rattle.columns.proofs.turn.turn_group.Goals as goal

pub returns-then-is_blank : goal.returns-then-is_blank
returns-then-is_blank c = record {
  sized = c.copy_squares.ensures.copied.long ∙ c.requires.within.2;
  turned = group_blank (places_of c.args.places (table_of_bits c.args.bits.now)) _ _ c.requires.within.0
      c.copy_squares.ensures.copied _ (λ i l. c.is_blank.ensures.blank c.if-is_blank.true i) c.requires.zeros;
}

pub returns : goal.returns
returns c = record {
  sized = c.turn_squares.ensures.turned.long ∙ c.copy_squares.ensures.copied.long ∙ c.requires.within.2;
  turned = group_turned (places_of c.args.places (table_of_bits c.args.bits.now)) _ _ c.requires.within.0
      c.copy_squares.ensures.copied c.turn_squares.ensures.turned c.write_squares.ensures.written;
}
