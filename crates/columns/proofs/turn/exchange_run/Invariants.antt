-- `exchange_run` goes word by word. The invariant: the first n words and those at the distance are exchanged. Assumes
-- nothing.
use Rattle.bit_machine.specs.Inside.Index.{Exchanged}
use Rattle.columns.proofs.turn.exchange_run.Given as goal

abbrev pub invariant-loop-n : goal.invariant-loop-n
invariant-loop-n l = Exchanged l.initial.words l.words l.at l.n l.d l.j
