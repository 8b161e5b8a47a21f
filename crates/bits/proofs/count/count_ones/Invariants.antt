-- `count::count_ones` meets its contract. The loop's invariant: the sum counts the done bits of the first k rows.
-- Assumes nothing.
use Rattle.grammar.proofs.Basics.{◌≡◌, ◌*◌}
use Rattle.grammar.specs.Counting.{count}
use Rattle.bit_machine.specs.BitTable.{bit_at, done_half}
use Rattle.bits.proofs.count.count_ones.Given as goal

abbrev pub invariant-loop-k : goal.invariant-loop-k
invariant-loop-k l = l.sum ≡ count (bit_at l.bits done_half) (l.k * 32)
