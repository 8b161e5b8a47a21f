-- `pack::row_words` meets its contract. The loop's invariant: the first j bits of each word are what the bytes say.
-- Assumes nothing.
use Rattle.grammar.proofs.Basics.{List, Bool, ℕ, ◌+◌, ◌*◌, get_or}
use Rattle.machine.specs.Table.{is_pending_lem, is_done_lem}
use Rattle.bit_machine.proofs.StateWords.{FirstBits}
use Rattle.packing.proofs.pack.row_words.Given as goal

-- a test of the bytes of a row
abbrev pub in_row : (ℕ → Bool) → List ℕ → ℕ → ℕ → Bool
in_row test table k j = test (get_or table (k * 32 + j) 0)

abbrev pub invariant-loop-j : goal.invariant-loop-j
invariant-loop-j l =
    FirstBits (in_row is_pending_lem l.table l.k) l.pending l.j
    × FirstBits (in_row is_done_lem l.table l.k) l.done l.j
