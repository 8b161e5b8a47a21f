-- Reasons and turns on a bit table. Assumes nothing.
use Rattle.std.specs.Prelude.{◌≡◌, true, false, List, ℕ, ◌≤◌, ◌<◌, length, get_or}
use Rattle.grammar.specs.Rule.{Rule}
use Rattle.job.specs.Job.{Job}
use Rattle.job.specs.Theorems.InRange.{InRange}
use Rattle.machine.specs.Table.{Lent, reasons_size, reason_place_lem, statuses}
use Rattle.machine.specs.Step.{lowest, is_finished, offered, comes_in}
use Rattle.machine.specs.Theorems.Reasons.{ReasonsFit}
use Rattle.machine.specs.Theorems.Turns.{Added}
use Rattle.bit_machine.specs.BitTable.{bits_size, bit_statuses, done_bits}
use Rattle.bit_machine.specs.Machine.{as_bytes, started_bits, steps_bits}

-- the two halves, and the reasons too, are long enough for the machine
abbrev pub LongBits : Lent → Type 0
LongBits m = (bits_size ≤ length m.table) × (reasons_size ≤ length m.reasons)

-- The bit table: what a step adds has the smallest reason offered, and as its turn the ones of the done half after the
-- step, which are at most 65,535
unfoldable pub StepTurnsBits : Type 0
StepTurnsBits =
    (ρs : List Rule) → length ρs ≤ 256 → (m : Lent) → LongBits m → is_finished (statuses (as_bytes m).table) ≡ false →
    (q A r : ℕ) → q < 32 → A < 32 → r < 32 →
    comes_in ρs (statuses (as_bytes m).table) (lowest (statuses (as_bytes m).table)) q A r ≡ true →
    Added (get_or (steps_bits ρs 1 m).reasons (reason_place_lem q A r) 0)
    (offered ρs (statuses (as_bytes m).table) (lowest (statuses (as_bytes m).table)) q A r)
    (done_bits (steps_bits ρs 1 m).table)

-- Table and machine, The bit table: after a start on bits and any number of steps the reasons fit what the two halves
-- say; so each premise is done and has a smaller turn than the pending or done transition whose reason names it
unfoldable pub RunReasonsFitBits : Type 0
RunReasonsFitBits =
    (J : Job) → InRange J → (m : Lent) → LongBits m → (n : ℕ) →
    ReasonsFit J (bit_statuses (steps_bits J.rules n (started_bits J m)).table)
    (steps_bits J.rules n (started_bits J m)).reasons
