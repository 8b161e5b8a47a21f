-- `uses::mentions`. The invariant: an element of the line begins at `at`, and the names before it are known. Assumes
-- nothing.
use Rattle.grammar.proofs.Basics.{◌-◌, length}
use Rattle.naming.proofs.Mentioning.{Looked}
use Rattle.naming.proofs.uses.mentions.Given as goal

abbrev pub invariant-loop-x : goal.invariant-loop-x
invariant-loop-x l = Looked l.named.edition l.named.text l.named.names l.body l.at

abbrev pub decreases-loop-x : goal.decreases-loop-x
decreases-loop-x l = length l.named.text - l.at
