-- `lines::collect`. The invariant: the names of the lines before `at` are entered. Assumes nothing.
use Rattle.grammar.proofs.Basics.{◌-◌, length}
use Rattle.naming.proofs.Collecting.{CollectedIn}
use Rattle.naming.proofs.lines.collect.Given as goal

abbrev pub invariant-loop-at : goal.invariant-loop-at
invariant-loop-at l = CollectedIn l.initial.named l.named l.at

abbrev pub decreases-loop-at : goal.decreases-loop-at
decreases-loop-at l = length l.text - l.at
