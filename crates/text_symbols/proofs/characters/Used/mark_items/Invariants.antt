-- `Used::mark_items`. The invariant: the characters of the first items are marked. Assumes nothing.
use Rattle.text_symbols.proofs.MarkedSets.{FirstMarked}
use Rattle.text_symbols.proofs.characters.Used.mark_items.Given as goal

abbrev pub invariant-loop-item : goal.invariant-loop-item
invariant-loop-item l = FirstMarked l.items l.initial.self l.item-index l.self
