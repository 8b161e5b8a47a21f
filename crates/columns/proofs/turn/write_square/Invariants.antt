-- `write_square` writes word by word. The invariant: the first r words are written. Assumes nothing.
use Rattle.grammar.proofs.Basics.{◌≡◌, ◌+◌, ◌*◌, get_or}
use Rattle.bit_machine.specs.Inside.Index.{Written}
use Rattle.columns.proofs.turn.write_square.Given as goal

abbrev pub invariant-loop-r : goal.invariant-loop-r
invariant-loop-r l = Written l.initial.index l.index l.at l.r (λ i w. w ≡ get_or l.words (i * 8 + l.x) 0)
