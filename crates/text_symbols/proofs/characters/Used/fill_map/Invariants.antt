-- `Used::fill_map`. The invariant: the characters below c, k of them, stand in front. Assumes nothing.
use Rattle.text_symbols.specs.Marks.{marked}
use Rattle.text_symbols.proofs.CharacterMap.{Filling}
use Rattle.text_symbols.proofs.characters.Used.fill_map.Given as goal

abbrev pub invariant-loop-c : goal.invariant-loop-c
invariant-loop-c l = Filling (marked l.self) l.initial.map l.map l.k l.c
