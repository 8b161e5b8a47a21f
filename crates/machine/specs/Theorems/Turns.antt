-- The turn of what a step adds, on any table. Assumes nothing.
use Rattle.std.specs.Prelude.{◌≡◌, true, false, List, ℕ, ◌≤◌, ◌<◌, length, get_or}
use Rattle.grammar.specs.Rule.{Rule}
use Rattle.machine.specs.Table.{Lent, reason_place_lem, done_count_lem, statuses, reason_in, turn_in}
use Rattle.machine.specs.Step.{lowest, is_finished, offered, comes_in, step}
use Rattle.machine.specs.Theorems.Steps.{LongEnough}

-- Table and machine: what stands among the reasons for a transition that a step has added: the smallest reason
-- offered, and as turn the number of done places right after the step, which is at most 65,535
pub record Added (entry reason doneAfter : ℕ) : Type 0 where
  pub reason_is : reason_in entry ≡ reason
  pub turn_is : turn_in entry ≡ doneAfter
  pub at_most : turn_in entry ≤ 65535

unfoldable pub StepTurns : Type 0
StepTurns =
    (ρs : List Rule) → length ρs ≤ 256 → (m : Lent) → LongEnough m → is_finished (statuses m.table) ≡ false →
    (q A r : ℕ) → q < 32 → A < 32 → r < 32 →
    comes_in ρs (statuses m.table) (lowest (statuses m.table)) q A r ≡ true →
    Added (get_or (step ρs m).reasons (reason_place_lem q A r) 0)
    (offered ρs (statuses m.table) (lowest (statuses m.table)) q A r)
    (done_count_lem (statuses (step ρs m).table))
