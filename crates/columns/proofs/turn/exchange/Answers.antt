-- `exchange` keeps the blocks under the mask of the first word and the others of the second. Assumes nothing.
use Rattle.grammar.proofs.Basics.{arith}
use Rattle.bit_machine.proofs.Turning.{first_word, second_word, exchanged_one, few_bits}
use Rattle.columns.proofs.turn.exchange.Goals as goal

pub overflow_cast-words : goal.overflow_cast-words
overflow_cast-words c = omega (arith, few_bits c.requires.blocks.size)

pub overflow_shl-words : goal.overflow_shl-words
overflow_shl-words c = omega (arith, few_bits c.requires.blocks.size)

pub overflow_cast-words-2 : goal.overflow_cast-words-2
overflow_cast-words-2 c = omega (arith, few_bits c.requires.blocks.size)

pub overflow_shr-words : goal.overflow_shr-words
overflow_shr-words c = omega (arith, few_bits c.requires.blocks.size)

pub returns : goal.returns
returns c =
    record {
      exchanged =
          let blocks = c.requires.blocks in
          exchanged_one _ _ _ _ _ _ c.requires.within.0 c.requires.within.1 (λ b l. first_word _ _ _ _ b blocks l)
          (λ b l. second_word _ _ _ _ b blocks l (omega arith));
    }
