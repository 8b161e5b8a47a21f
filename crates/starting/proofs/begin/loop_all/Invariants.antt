-- `begin::loop_all` meets its contract. The loop's invariant: the ε transitions at the states passed so far are
-- written. Assumes nothing.
use Rattle.machine.specs.Table.{lent_of}
use Rattle.machine.proofs.Starts.Looping.{Looped}
use Rattle.bit_machine.specs.BitTable.{table_of_bits}
use Rattle.bit_machine.specs.Inside.Change.{Kept}
use Rattle.starting.proofs.begin.loop_all.Given as goal

abbrev pub invariant-loop-q : goal.invariant-loop-q
invariant-loop-q l =
    Looped l.states l.variable l.reason (lent_of (table_of_bits l.initial.bits) l.initial.reasons)
    (lent_of (table_of_bits l.bits) l.reasons) l.q
    × Kept l.initial.bits l.bits
