-- `operations::start`: what passes the checks is begun. Assumes nothing.
use Rattle.grammar.proofs.Basics.{refl}
use Rattle.bit_machine.proofs.RunChecks.{bits_passed}
use Rattle.bit_table.proofs.operations.start.Goals as goal

pub begin-requires : goal.begin-requires
begin-requires c =
    let p = bits_passed _ _ _ c.in_ok-bits_check.ensures.checked refl in
    record { able = (p.long, p.long_reasons, p.ok) }
