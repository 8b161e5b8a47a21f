-- `lines::rule_end`. The invariant: an element of the line is read. Assumes nothing.
use Rattle.grammar.proofs.Basics.{◌-◌, length}
use Rattle.naming.proofs.LineWalk.{Passing}
use Rattle.naming.proofs.lines.rule_end.Given as goal

abbrev pub invariant-loop-edition : goal.invariant-loop-edition
invariant-loop-edition l = Passing l.edition l.text l.body l.x

abbrev pub decreases-loop-edition : goal.decreases-loop-edition
decreases-loop-edition l = length l.text - l.x.next
