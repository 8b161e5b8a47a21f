-- `write_ones` writes one by one. The invariant: all ones are written but those that are left to be given. Assumes
-- nothing.
use Rattle.packing.proofs.Merged.{Writing}
use Rattle.packing.proofs.merge.write_ones.Given as goal

abbrev pub invariant-loop-j : goal.invariant-loop-j
invariant-loop-j l = Writing l.initial.table l.table l.k l.ones l.j-iterator.0 l.byte
