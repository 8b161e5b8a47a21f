-- `Variables::take_letters`. The invariant: variables are taken for the letters of the first items. Assumes nothing.
use Rattle.grammar.proofs.Basics.{take}
use Rattle.text_symbols.specs.Letters.{LettersTaken}
use Rattle.text_symbols.proofs.letters.Variables.take_letters.Given as goal

abbrev pub invariant-loop-item : goal.invariant-loop-item
invariant-loop-item l = LettersTaken (take l.item-index l.items) l.initial.self l.self
