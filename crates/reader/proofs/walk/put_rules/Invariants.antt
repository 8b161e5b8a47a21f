-- `walk::put_rules`. The invariant: the keys in order are those of the rules of the bodies up to here. Assumes
-- nothing.
use Rattle.grammar.proofs.Basics.{length}
use Rattle.bodies.specs.Places.{bodies_at}
use Rattle.reader.proofs.PuttingText.{Putting}
use Rattle.reader.proofs.walk.put_rules.Given as goal

abbrev pub invariant-loop-place : goal.invariant-loop-place
invariant-loop-place l = Putting l.named l.place l.variables l.rules

abbrev pub decreases-loop-place : goal.decreases-loop-place
decreases-loop-place l = length (bodies_at l.named.edition l.named.text l.named.names l.place)
