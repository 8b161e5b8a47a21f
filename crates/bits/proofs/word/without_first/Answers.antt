-- `n & (n - 1)` has all ones of n but the first. Assumes nothing.
use Rattle.grammar.proofs.Basics.{arith}
use Rattle.bit_machine.proofs.Words.{without}
use Rattle.bits.proofs.word.without_first.Goals as goal

pub returns : goal.returns
returns c = record { rest = without _ (omega arith) c.requires.some }
