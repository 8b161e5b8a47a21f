-- `begin::give` meets its contract: the writes are those of `giving`, whose tests the branches make, and a place that
-- becomes pending is not done. Assumes nothing.
use Rattle.grammar.proofs.Basics.{ap, not, arith, rules}
use Rattle.machine.proofs.Starts.Giving.{not_given, terminal_given, variable_given}
use Rattle.bit_machine.proofs.Keeping.{none_done_pending}
use Rattle.starting.proofs.begin.give.Goals as goal

pub returns-then-given-ne84-clause-given : goal.returns-then-given-ne84-clause-given
returns-then-given-ne84-clause-given c = search (not_given, rules)

pub returns-then-is_variable-clause-given : goal.returns-then-is_variable-clause-given
returns-then-is_variable-clause-given c =
    rw c.from.ensures
    (variable_given _ _ _ c.if-given-ne84.false _ c.make_pending.ensures.written _ c.is_variable.ensures.variable
    (ap not c.if-is_variable.true))

pub returns-then-is_variable-clause-kept : goal.returns-then-is_variable-clause-kept
returns-then-is_variable-clause-kept c =
    let fits = c.requires.fits.0 c.if-given-ne84.false in
    let w = c.make_pending.ensures in
    (w.kept, none_done_pending _ _ _ (omega (arith, fits)) w.written c.requires.fits.1)

pub returns-else-is_variable-clause-given : goal.returns-else-is_variable-clause-given
returns-else-is_variable-clause-given c =
    terminal_given _ _ _ c.if-given-ne84.false _ c.make_pending.ensures.written _ c.is_variable.ensures.variable
    (ap not c.if-is_variable.false)

pub returns-else-is_variable-clause-kept : goal.returns-else-is_variable-clause-kept
returns-else-is_variable-clause-kept c =
    let fits = c.requires.fits.0 c.if-given-ne84.false in
    let w = c.make_pending.ensures in
    (w.kept, none_done_pending _ _ _ (omega (arith, fits)) w.written c.requires.fits.1)
