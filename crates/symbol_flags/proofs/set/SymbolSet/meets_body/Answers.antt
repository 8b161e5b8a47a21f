-- `set::SymbolSet::meets_body` meets its contract: by the length of the body. Assumes nothing.
use Rattle.usefulness.proofs.Bodies.{any_of_none, any_of_one, any_of_two}
use Rattle.symbol_flags.proofs.set.SymbolSet.meets_body.Goals as goal

pub returns-in-Empty : goal.returns-in-Empty
returns-in-Empty c = record { says = rw (c.in-Empty.is, any_of_none) }

pub returns-in-Unit : goal.returns-in-Unit
returns-in-Unit c = record { says = rw (c.in-Unit.is, any_of_one) c.contains.ensures.says }

pub returns-then-contains : goal.returns-then-contains
returns-then-contains c =
    record { says = rw (c.in-Pair.is, any_of_two, ← c.contains-in-Pair.ensures.says, c.if-contains.true) }

pub returns-else-contains : goal.returns-else-contains
returns-else-contains c =
    record {
      says = rw (c.in-Pair.is, any_of_two, ← c.contains-in-Pair.ensures.says, c.if-contains.false)
          c.contains-else-contains.ensures.says;
    }
