-- `acceptance::finish_words` meets its contract. The loop's invariant: the words of the positions that are done, from
-- i on, are right. Assumes nothing.
use Rattle.grammar.proofs.Basics.{◌≡◌, length}
use Rattle.bit_machine.specs.BitTable.{bit_of}
use Rattle.forms.proofs.StateWords.{WordsFrom}
use Rattle.asking.proofs.acceptance.finish_words.Given as goal

abbrev pub invariant-loop-i : goal.invariant-loop-i
invariant-loop-i l = (length l.words ≡ 65) × WordsFrom (bit_of l.finals) l.bits l.form l.words l.i
