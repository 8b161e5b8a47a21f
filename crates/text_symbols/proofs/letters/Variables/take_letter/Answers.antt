-- `Variables::take_letter`: by what the item is, and by whether its letter has a variable. Assumes nothing.
use Rattle.grammar.proofs.Basics.{arith}
use Rattle.text_symbols.proofs.LettersTaken.{taken_other, taken_met, taken_new}
use Rattle.text_symbols.proofs.letters.Variables.take_letter.Goals as goal

pub returns-in_default : goal.returns-in_default
returns-in_default c = record { taken = taken_other _ _ _ c.from.ensures c.in_default.not-Letter }

pub returns-then-is_none : goal.returns-then-is_none
returns-then-is_none c = record {
  taken = taken_new _ _ c.from-l.result (omega (arith, c.in-Letter.ensures)) (omega (arith, c.in-Letter.ensures))
      c.if-is_none.ensures;
}

pub returns-else-is_none : goal.returns-else-is_none
returns-else-is_none c = record {
  taken = taken_met _ _ c.from-l.result (omega (arith, c.in-Letter.ensures)) (omega (arith, c.in-Letter.ensures))
      c.if-is_none.ensures;
}
