-- `scan::scan`. The invariant: the text from `at` on, at this stage, leaves the part where the whole does. Assumes
-- nothing.
use Rattle.grammar.proofs.Basics.{◌≡◌, ◌≤◌, ◌-◌, length}
use Rattle.abnf.specs.Reading.{fault_of}
use Rattle.scanner.proofs.Leaving.{fault_at}
use Rattle.scanner.proofs.scan.scan.Given as goal

abbrev pub invariant-loop-at : goal.invariant-loop-at
invariant-loop-at l =
    (l.at ≤ length l.text) × (fault_at l.edition l.stage l.text l.at ≡ fault_of l.edition l.text)

abbrev pub decreases-loop-at : goal.decreases-loop-at
decreases-loop-at l = length l.text - l.at
