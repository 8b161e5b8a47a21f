-- `set::SymbolSet::has_body` meets its contract: by the length of the body. Assumes nothing.
use Rattle.usefulness.proofs.Bodies.{all_of_none, all_of_one, all_of_two}
use Rattle.symbol_flags.proofs.set.SymbolSet.has_body.Goals as goal

pub returns-in-Empty : goal.returns-in-Empty
returns-in-Empty c = record { says = rw (c.in-Empty.is, all_of_none) }

pub returns-in-Unit : goal.returns-in-Unit
returns-in-Unit c = record { says = rw (c.in-Unit.is, all_of_one) c.contains.ensures.says }

pub returns-then-contains : goal.returns-then-contains
returns-then-contains c =
    record {
      says = rw (c.in-Pair.is, all_of_two, ← c.contains-in-Pair.ensures.says, c.if-contains.true)
          c.contains-then-contains.ensures.says;
    }

pub returns-else-contains : goal.returns-else-contains
returns-else-contains c =
    record { says = rw (c.in-Pair.is, all_of_two, ← c.contains-in-Pair.ensures.says, c.if-contains.false) }
