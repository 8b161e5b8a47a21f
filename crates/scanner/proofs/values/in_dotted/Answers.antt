-- `values::in_dotted`: the byte at the offset and the one after it decide. Assumes nothing.
use Rattle.grammar.proofs.Basics.{arith}
use Rattle.scanner.proofs.Numbers.{dotted_here}
use Rattle.scanner.proofs.values.in_dotted.Goals as goal

pub returns-then-class_at : goal.returns-then-class_at
returns-then-class_at c = record { says = grind (arith, dotted_here) }

pub returns-then-stands_at : goal.returns-then-stands_at
returns-then-stands_at c = record { says = grind (arith, dotted_here) }

pub returns-else-stands_at : goal.returns-else-stands_at
returns-else-stands_at c =
    record {
      says =
          rw (dotted_here, ← c.class_at.ensures.says, c.if-class_at.false, ← c.stands_at.ensures.says, c.if-stands_at.false);
    }
