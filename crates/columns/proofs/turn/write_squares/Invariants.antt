-- `write_squares` writes square by square. The invariant: the first x squares are written. Assumes nothing.
use Rattle.grammar.proofs.Basics.{◌≡◌, ◌+◌, ◌*◌, ◌/◌, ◌%◌, get_or}
use Rattle.bit_machine.specs.Inside.Index.{Written}
use Rattle.columns.proofs.turn.write_squares.Given as goal

abbrev pub invariant-loop-x : goal.invariant-loop-x
invariant-loop-x l =
    Written l.initial.index l.index l.at (l.x * 32) (λ i w. w ≡ get_or l.words (i % 32 * 8 + i / 32) 0)
