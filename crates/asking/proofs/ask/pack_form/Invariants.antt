-- `ask::pack_form` packs symbol by symbol. The loop's invariant: the rows of the symbols passed are packed. Assumes
-- nothing.
use Rattle.grammar.proofs.Basics.{◌≡◌, length}
use Rattle.bit_machine.specs.BitTable.{bits_size}
use Rattle.asking.proofs.FormPacked.{Packing}
use Rattle.asking.proofs.ask.pack_form.Given as goal

abbrev pub invariant-loop-symbol : goal.invariant-loop-symbol
invariant-loop-symbol l = (length l.bits ≡ bits_size) × Packing l.table l.form l.bits l.symbol-index
