-- `turn_by` exchanges run by run. The invariant: the words before a place are exchanged. Assumes nothing.
use Rattle.grammar.proofs.Basics.{◌*◌}
use Rattle.bit_machine.proofs.Turning.{Turning}
use Rattle.columns.proofs.turn.turn_by.Given as goal

abbrev pub invariant-loop-n : goal.invariant-loop-n
invariant-loop-n l = Turning l.initial.words l.words l.j (l.n * (l.j * 16))
