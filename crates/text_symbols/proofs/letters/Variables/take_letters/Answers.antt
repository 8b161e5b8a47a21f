use Rattle.grammar.proofs.Basics.{add-one, take-suc}
use Rattle.text_symbols.proofs.LettersTaken.{taken_none, taken_then}
use Rattle.text_symbols.proofs.letters.Variables.take_letters.Goals as goal

pub loop-item-init : goal.loop-item-init
loop-item-init c = taken_none _

pub loop-item-preserved : goal.loop-item-preserved
loop-item-preserved c =
    let items = c.args.items.now in
    rw (add-one c.loop-item.item-index, take-suc items c.loop-item.item-index 0 c.loop-item-test.true)
    (taken_then c.loop-item.invariant c.take_letter.ensures.taken)
