-- `uses::name_fault`. The invariant: up to `at` there is no fault, and the first `defined` of all names have = there.
-- Assumes nothing.
use Rattle.grammar.proofs.Basics.{◌-◌, length}
use Rattle.abnf.specs.declared.Stage.TheVariants.{LineStart}
use Rattle.naming.proofs.NameFaults.{Reached}
use Rattle.naming.proofs.uses.name_fault.Given as goal

abbrev pub invariant-loop-at : goal.invariant-loop-at
invariant-loop-at l = Reached l.named.edition LineStart l.named.text l.named.names l.defined l.at

abbrev pub decreases-loop-at : goal.decreases-loop-at
decreases-loop-at l = length l.named.text - l.at
