-- `pack::pack` packs part by part. The loop's invariant: the rows of the first n parts are packed. Assumes nothing.
use Rattle.grammar.proofs.Basics.{◌*◌, ltb}
use Rattle.packing.specs.Packing.{PackedRows}
use Rattle.packing.proofs.pack.pack.Given as goal

abbrev pub invariant-loop-n : goal.invariant-loop-n
invariant-loop-n l = PackedRows (λ r. ltb r (l.n * 4)) l.table l.bits
