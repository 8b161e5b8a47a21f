-- `turn_columns` goes group by group. The invariant: the columns of the first c groups are right. Assumes nothing.
use Rattle.grammar.proofs.Basics.{◌≡◌, length}
use Rattle.bit_machine.specs.BitTable.{table_of_bits}
use Rattle.bit_machine.specs.Inside.Index.{ColumnsTurned}
use Rattle.columns.specs.Places.{places_of}
use Rattle.columns.proofs.turn.turn_columns.Given as goal

abbrev pub invariant-loop-c : goal.invariant-loop-c
invariant-loop-c l =
    (length l.words ≡ 256) × ColumnsTurned l.initial.index l.index l.base 0 l.c
    (places_of l.places (table_of_bits l.bits))
