-- `values::is_range`: a dash where the digits end, and a digit after it. Assumes nothing.
use Rattle.scanner.proofs.Numbers.{range_here}
use Rattle.scanner.proofs.values.is_range.Goals as goal

pub returns-then-stands_at : goal.returns-then-stands_at
returns-then-stands_at c =
    let e = range_here c.args.text.now c.run_length-end.result c.run_length-end.ensures.length in
    record { says = rw (e, ← c.stands_at.ensures.says, c.if-stands_at.true) c.class_at.ensures.says }

pub returns-else-stands_at : goal.returns-else-stands_at
returns-else-stands_at c =
    let e = range_here c.args.text.now c.run_length-end.result c.run_length-end.ensures.length in
    record { says = rw (e, ← c.stands_at.ensures.says, c.if-stands_at.false) }
