-- Table and machine: the whole outcome of start and advance, for every input: the answer and what is lent afterwards.
-- Assumes nothing.
use Rattle.std.specs.Prelude.{ℕ, true, false, cond, List, eqb}
use Rattle.job.specs.Records.{Checked}
use Rattle.job.specs.Check.{Checks, job_check, short_table, short_reasons, or_else}
use Rattle.job.specs.Job.{job_of}
use Rattle.machine.specs.Answers.{Started}
use Rattle.machine.specs.Answers.{Advanced}
use Rattle.machine.specs.Table.{Lent, statuses}
use Rattle.machine.specs.Start.{started}
use Rattle.machine.specs.Step.{is_finished}
use Rattle.machine.specs.Advance.{steps, steps_made, meetings_made}

-- the checks of start and advance: the buffers, then the job, with an initial state; by the checks of a job
unfoldable pub machine_check_by : Checks → List ℕ → Lent → Checked
machine_check_by checks job m = or_else (or_else (short_table m.table) (short_reasons m.reasons)) (checks true job)

-- and by the checks of this product
abbrev pub machine_check_lem : List ℕ → Lent → Checked
machine_check_lem = machine_check_by job_check

-- what start leaves: the answer and the lent memory
pub record StartOutcome : Type 0 where
  pub answer : Started
  pub lent : Lent

abbrev pub start_leaves : Started → Lent → StartOutcome
start_leaves a m = record { answer = a; lent = m }

-- Refused calls: a refused start answers 0 and changes nothing lent
abbrev pub start_refused : Checked → Lent → StartOutcome
start_refused c m = start_leaves (record { number = c.number; place = c.place; states = 0 }) m

-- start answers the number of states
unfoldable pub start_by : Checks → List ℕ → Lent → StartOutcome
start_by checks job m =
    cond (eqb (machine_check_by checks job m).number 0)
    (start_leaves (record { number = 0; place = 0; states = (job_of job).states }) (started (job_of job) m))
    (start_refused (machine_check_by checks job m) m)

-- and by the checks of this product
abbrev pub start_of : List ℕ → Lent → StartOutcome
start_of = start_by job_check

-- what advance leaves
pub record AdvanceOutcome : Type 0 where
  pub answer : Advanced
  pub lent : Lent

abbrev pub advance_leaves : Advanced → Lent → AdvanceOutcome
advance_leaves a m = record { answer = a; lent = m }

-- Refused calls: a refused advance counts 0, says no and changes nothing lent
abbrev pub advance_refused : Checked → Lent → AdvanceOutcome
advance_refused c m =
    advance_leaves (record { number = c.number; place = c.place; finished = false; steps = 0; meetings = 0 }) m

-- advance answers whether the table is finished, the steps made, and the rise in pair meetings of the done transitions
unfoldable pub advance_by : Checks → List ℕ → Lent → ℕ → AdvanceOutcome
advance_by checks job m n =
    cond (eqb (machine_check_by checks job m).number 0)
    (record {
      answer =
          record {
            number = 0;
            place = 0;
            finished = is_finished (statuses (steps (job_of job).rules n m).table);
            steps = steps_made (job_of job).rules n m;
            meetings = meetings_made (job_of job).rules n m;
          };
      lent = steps (job_of job).rules n m;
    })
    (advance_refused (machine_check_by checks job m) m)

-- and by the checks of this product
abbrev pub advance_of : List ℕ → Lent → ℕ → AdvanceOutcome
advance_of = advance_by job_check
