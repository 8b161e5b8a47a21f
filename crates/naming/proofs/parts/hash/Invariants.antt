-- `parts::hash`. The invariant: with the hash so far, the bytes that are left come to the hash of the whole. Assumes
-- nothing.
use Rattle.grammar.proofs.Basics.{◌≡◌, ◌<◌, drop}
use Rattle.naming.specs.Table.{hash_from, hash_of}
use Rattle.naming.proofs.parts.hash.Given as goal

abbrev pub invariant-loop-b : goal.invariant-loop-b
invariant-loop-b l = (l.h < 1024) × (hash_from l.h (drop l.b-index l.name) ≡ hash_of l.name)
