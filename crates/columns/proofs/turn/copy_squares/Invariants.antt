-- `copy_squares` copies state by state. The invariant: the rows of the first q states are copied. Assumes nothing.
use Rattle.grammar.proofs.Basics.{◌+◌, ◌*◌, ◌/◌, ◌%◌}
use Rattle.bit_machine.specs.BitTable.{table_of_bits}
use Rattle.bit_machine.specs.Inside.Index.{Written, RowIs}
use Rattle.columns.specs.Places.{places_of}
use Rattle.columns.proofs.turn.copy_squares.Given as goal

abbrev pub invariant-loop-q : goal.invariant-loop-q
invariant-loop-q l =
    Written l.initial.words l.words 0 (l.q * 8)
    (λ i w. RowIs (places_of l.places (table_of_bits l.bits)) (i / 8 * 64 + l.c * 8 + i % 8) w)
