-- `values::first_value`. The invariant: the numbers are those of the bytes from `at` on after the value so far. Assumes
-- nothing.
use Rattle.grammar.proofs.Basics.{◌≡◌}
use Rattle.abnf.specs.Pieces.{values_from}
use Rattle.scanner.specs.Parts.{part_of_lem}
use Rattle.scanner.proofs.values.first_value.Given as goal

abbrev pub invariant-loop-at : goal.invariant-loop-at
invariant-loop-at l =
    values_from 0 (part_of_lem l.text l.from l.to) ≡ values_from l.value (part_of_lem l.text l.at l.to)
