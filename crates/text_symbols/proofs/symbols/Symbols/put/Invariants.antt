-- `Symbols::put`. The invariant: the symbols of the first i items stand in front. Assumes nothing.
use Rattle.grammar.proofs.Basics.{◌≡◌, map, length, take}
use Rattle.text_symbols.specs.Keys.{symbol_by}
use Rattle.text_symbols.proofs.symbols.Symbols.put.Given as goal

abbrev pub invariant-loop-i : goal.invariant-loop-i
invariant-loop-i l =
    (length l.body ≡ length l.initial.body)
    × (take l.i l.body ≡ map (symbol_by l.self.variables.now l.self.numbers.now) (take l.i l.items))
