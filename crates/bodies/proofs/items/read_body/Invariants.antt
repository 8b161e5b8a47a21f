-- `items::read_body`. The invariant: an element begins at `at`, and what is kept comes, with what is said from there
-- on, to the body and what is behind it. Assumes nothing.
use Rattle.grammar.proofs.Basics.{◌-◌, length}
use Rattle.bodies.proofs.BodyReading.{Reading}
use Rattle.bodies.proofs.items.read_body.Given as goal

abbrev pub invariant-loop : goal.invariant-loop
invariant-loop l = Reading l.named.edition l.named.text l.named.names l.from l.kept l.at

abbrev pub decreases-loop : goal.decreases-loop
decreases-loop l = length l.named.text - l.at
