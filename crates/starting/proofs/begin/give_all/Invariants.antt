-- `begin::give_all` meets its contract. The loop's invariant: what the records passed so far gave, and what the others
-- are still to give, is what all give, and no place is done. Assumes nothing.
use Rattle.job.specs.Format.{records_of}
use Rattle.machine.specs.Table.{lent_of}
use Rattle.machine.proofs.Starts.StartWalk.{Walked}
use Rattle.machine.proofs.Starts.Giving.{giving_from}
use Rattle.bit_machine.specs.BitTable.{table_of_bits}
use Rattle.bit_machine.specs.Inside.Change.{Kept, NoneDone}
use Rattle.starting.proofs.begin.give_all.Given as goal

abbrev pub invariant-loop-i : goal.invariant-loop-i
invariant-loop-i l =
    Walked giving_from (records_of l.job) (lent_of (table_of_bits l.initial.bits) l.initial.reasons)
    (lent_of (table_of_bits l.bits) l.reasons) l.i
    × Kept l.initial.bits l.bits × NoneDone l.bits
