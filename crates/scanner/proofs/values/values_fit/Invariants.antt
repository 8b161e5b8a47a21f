-- `values::values_fit`. The invariant: the value so far is at most FF, and with it the bytes that are left fit just if
-- all do. Assumes nothing.
use Rattle.grammar.proofs.Basics.{◌≡◌, ◌≤◌, drop}
use Rattle.abnf.specs.Pieces.{fit, values_from}
use Rattle.scanner.proofs.values.values_fit.Given as goal

abbrev pub invariant-loop-b : goal.invariant-loop-b
invariant-loop-b l =
    (l.value ≤ 255) × (fit (values_from l.value (drop l.b-index l.text)) ≡ fit (values_from 0 l.text))
