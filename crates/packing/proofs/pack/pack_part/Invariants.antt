-- `pack::pack_part` meets its contract: a blank part needs no writing, another is packed row by row. The loop's
-- invariant: all rows below k are packed. Assumes nothing.
use Rattle.grammar.proofs.Basics.{ltb}
use Rattle.packing.specs.Packing.{PackedRows}
use Rattle.packing.proofs.pack.pack_part.Given as goal

abbrev pub invariant-loop-k : goal.invariant-loop-k
invariant-loop-k l = PackedRows (λ r. ltb r l.k) l.table l.bits
