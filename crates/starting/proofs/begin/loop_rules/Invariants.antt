-- `begin::loop_rules` meets its contract. The loop's invariant: what the rules passed so far wrote, and what the
-- others are still to write, is what all write. Assumes nothing.
use Rattle.job.specs.Inside.Keys.{rules_of_keys}
use Rattle.machine.specs.Table.{lent_of}
use Rattle.machine.specs.Inside.StartParts.{looping_all}
use Rattle.machine.proofs.Starts.StartWalk.{Walked}
use Rattle.bit_machine.specs.BitTable.{table_of_bits}
use Rattle.bit_machine.specs.Inside.Change.{Kept}
use Rattle.starting.proofs.begin.loop_rules.Given as goal

abbrev pub invariant-loop-k : goal.invariant-loop-k
invariant-loop-k l =
    Walked (looping_all l.states) (rules_of_keys l.keys) (lent_of (table_of_bits l.initial.bits) l.initial.reasons)
    (lent_of (table_of_bits l.bits) l.reasons) l.k
    × Kept l.initial.bits l.bits
