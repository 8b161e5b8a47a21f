-- What stands among the reasons after a start and any number of steps: the entries of the start, and none for what is
-- absent. Assumes nothing.
use Rattle.std.specs.Prelude.{◌≡◌, true, false, ℕ, ◌<◌, get_or}
use Rattle.job.specs.Job.{Job}
use Rattle.machine.specs.Table.{Lent, table_place, reason_place_lem, is_absent_at, statuses, turn_in}
use Rattle.machine.specs.Start.{started}
use Rattle.machine.specs.Advance.{steps}
use Rattle.job.specs.Theorems.InRange.{InRange}
use Rattle.machine.specs.Theorems.Steps.{LongEnough}

-- Table and machine, start: the turn of every entry is 0
unfoldable pub StartTurns : Type 0
StartTurns =
    (J : Job) → InRange J → (m : Lent) → LongEnough m → (q A r : ℕ) → q < 32 → A < 32 → r < 32 →
    turn_in (get_or (started J m).reasons (reason_place_lem q A r) 0) ≡ 0

-- Table and machine: what start makes pending keeps the entry that start gave it, and so the turn 0, over any steps
unfoldable pub StartEntriesStay : Type 0
StartEntriesStay =
    (J : Job) (m : Lent) → LongEnough m → (n q A r : ℕ) → q < 32 → A < 32 → r < 32 →
    is_absent_at (statuses (started J m).table) (table_place q A r) ≡ false →
    get_or (steps J.rules n (started J m)).reasons (reason_place_lem q A r) 0
    ≡ get_or (started J m).reasons (reason_place_lem q A r) 0

-- the entry of an absent transition is 0, reason and turn
abbrev pub AbsentHaveNone : Lent → Type 0
AbsentHaveNone m =
    (q A r : ℕ) → q < 32 → A < 32 → r < 32 → is_absent_at (statuses m.table) (table_place q A r) ≡ true →
    get_or m.reasons (reason_place_lem q A r) 0 ≡ 0

-- Table and machine: so it is after a start and any number of steps
unfoldable pub RunAbsentHaveNone : Type 0
RunAbsentHaveNone =
    (J : Job) → InRange J → (m : Lent) → LongEnough m → (n : ℕ) → AbsentHaveNone (steps J.rules n (started J m))
