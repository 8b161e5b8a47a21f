-- `merge::merge` merges part by part. The loop's invariant: the rows of the first n parts are merged. Assumes nothing.
use Rattle.grammar.proofs.Basics.{◌*◌}
use Rattle.packing.specs.Merging.{RowsMerged}
use Rattle.packing.proofs.merge.merge.Given as goal

abbrev pub invariant-loop-n : goal.invariant-loop-n
invariant-loop-n l = RowsMerged l.new (l.n * 32) l.initial.table l.table
