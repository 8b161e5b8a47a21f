-- `turn_squares` makes the five rounds. Assumes nothing.
use Rattle.grammar.proofs.Basics.{arith}
use Rattle.bit_machine.proofs.Turning.{blocks_16, blocks_8, blocks_4, blocks_2, blocks_1, rounds}
use Rattle.columns.proofs.turn.turn_squares.Goals as goal

pub turn_by-requires : goal.turn_by-requires
turn_by-requires c = record {
  sized = omega arith;
  blocks = blocks_16;
}

pub turn_by-requires-2 : goal.turn_by-requires-2
turn_by-requires-2 c = record {
  sized = omega arith;
  blocks = blocks_8;
}

pub turn_by-requires-3 : goal.turn_by-requires-3
turn_by-requires-3 c = record {
  sized = omega arith;
  blocks = blocks_4;
}

pub turn_by-requires-4 : goal.turn_by-requires-4
turn_by-requires-4 c = record {
  sized = omega arith;
  blocks = blocks_2;
}

pub turn_by-requires-5 : goal.turn_by-requires-5
turn_by-requires-5 c = record {
  sized = omega arith;
  blocks = blocks_1;
}

pub returns : goal.returns
returns c =
    record {
      turned =
          rounds c.turn_by.ensures.turned c.turn_by-2.ensures.turned c.turn_by-3.ensures.turned
          c.turn_by-4.ensures.turned
          c.turn_by-5.ensures.turned;
    }
