-- `operations::advance`: what passes the checks runs. Assumes nothing.
use Rattle.grammar.proofs.Basics.{refl}
use Rattle.bit_machine.proofs.RunChecks.{bits_passed}
use Rattle.bit_table.proofs.operations.advance.Goals as goal

pub run-requires-clause-long : goal.run-requires-clause-long
run-requires-clause-long c =
    let p = bits_passed _ _ _ c.in_ok-bits_check.ensures.checked refl in (p.long, p.long_reasons)

pub run-requires-clause-accepted : goal.run-requires-clause-accepted
run-requires-clause-accepted c = (bits_passed _ _ _ c.in_ok-bits_check.ensures.checked refl).ok
