-- `pack::with_bit` meets its contract, bit by bit. Assumes nothing.
use Rattle.grammar.proofs.Basics.{arith}
use Rattle.packing.proofs.Packed.{bit_with}
use Rattle.packing.proofs.pack.with_bit.Goals as goal

pub returns : goal.returns
returns c = record { bits = λ i. rw c.from.ensures (bit_with _ _ i _ (omega arith)) }
