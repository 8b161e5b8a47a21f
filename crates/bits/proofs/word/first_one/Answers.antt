-- `first_one` counts the zeros below the first one. Assumes nothing.
use Rattle.grammar.proofs.Basics.{arith}
use lib.Count.{trailing_le}
use Rattle.bit_machine.proofs.Words.{first}
use Rattle.bits.proofs.word.first_one.Goals as goal

pub overflow_cast-result : goal.overflow_cast-result
overflow_cast-result c = omega (arith, trailing_le 32 c.args.word)

pub returns : goal.returns
returns c = record { first = first _ (omega arith) }
