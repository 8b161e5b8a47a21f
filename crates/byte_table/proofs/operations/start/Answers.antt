-- `operations::start`: what passes the checks is begun. Assumes nothing.
use Rattle.grammar.proofs.Basics.{refl}
use Rattle.machine.proofs.MachineChecks.{machine_passed}
use Rattle.byte_table.proofs.operations.start.Goals as goal

pub begin-requires : goal.begin-requires
begin-requires c =
    let p = machine_passed _ _ _ c.in_ok-machine_check.ensures.checked refl in
    record { able = (p.long, p.long_reasons, p.ok) }
