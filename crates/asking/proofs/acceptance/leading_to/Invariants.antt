-- `acceptance::leading_to` meets its contract. The loop's invariant: the first q bits are those of the states below q.
-- Assumes nothing.
use Rattle.grammar.proofs.Basics.{◌&&◌, Bool, List, ℕ}
use Rattle.machine.specs.Table.{done_in}
use Rattle.grammar.specs.Counting.{some}
use Rattle.bit_machine.specs.BitTable.{bit_of, bit_statuses}
use Rattle.bit_machine.proofs.StateWords.{FirstBits}
use Rattle.asking.proofs.acceptance.leading_to.Given as goal

-- a done transition with the symbol leads from a state to a target
abbrev pub leading : List ℕ → ℕ → ℕ → ℕ → Bool
leading bits symbol targets q = some (λ r. done_in (bit_statuses bits) q symbol r && bit_of targets r) 32

abbrev pub invariant-loop-q : goal.invariant-loop-q
invariant-loop-q l = FirstBits (leading l.bits l.symbol l.targets) l.word l.q
