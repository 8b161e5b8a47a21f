-- `walk::count_bodies`. The invariant: what is counted and marked is what the bodies up to here need. Assumes nothing.
use Rattle.grammar.proofs.Basics.{length}
use Rattle.bodies.specs.Places.{bodies_at}
use Rattle.reader.proofs.CountingText.{Counting}
use Rattle.reader.proofs.walk.count_bodies.Given as goal

abbrev pub invariant-loop-place : goal.invariant-loop-place
invariant-loop-place l = Counting l.named l.place l.variables l.used

abbrev pub decreases-loop-place : goal.decreases-loop-place
decreases-loop-place l = length (bodies_at l.named.edition l.named.text l.named.names l.place)
