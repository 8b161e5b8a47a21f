-- `set::SymbolSet::with_body` meets its contract: by the length of the body. Assumes nothing.
use Rattle.grammar.proofs.Basics.{or-false, or_assoc}
use Rattle.usefulness.proofs.Bodies.{any_of_none, any_of_one, any_of_two}
use Rattle.usefulness.proofs.Raising.{flags_alike}
use Rattle.symbol_flags.proofs.set.SymbolSet.with_body.Goals as goal

pub returns-in-Empty : goal.returns-in-Empty
returns-in-Empty c =
    record { flags = λ s held. flags_alike held (λ X _. rw (c.in-Empty.is, any_of_none, or-false)) }

pub returns-in-Unit : goal.returns-in-Unit
returns-in-Unit c =
    record { flags = λ s held. flags_alike (c.with.ensures.flags s held) (λ X _. rw (c.in-Unit.is, any_of_one)) }

pub returns-in-Pair : goal.returns-in-Pair
returns-in-Pair c =
    record {
      flags = λ s held.
          flags_alike (c.with-in-Pair-2.ensures.flags _ (c.with-in-Pair.ensures.flags s held))
          (λ X _. rw (c.in-Pair.is, any_of_two, or_assoc));
    }
