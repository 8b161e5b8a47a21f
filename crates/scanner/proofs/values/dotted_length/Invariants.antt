-- `values::dotted_length`. The invariant: the digits and dots from `at` on end where the whole does. Assumes nothing.
use Rattle.grammar.proofs.Basics.{◌≡◌, ◌+◌, drop}
use Rattle.abnf.specs.Pieces.{dotted}
use Rattle.scanner.proofs.values.dotted_length.Given as goal

abbrev pub invariant-loop-at : goal.invariant-loop-at
invariant-loop-at l = l.at + dotted (drop l.at l.text) ≡ dotted l.text
