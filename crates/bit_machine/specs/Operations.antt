-- The bit table: the whole outcome of its operations, for every input: the answer and what is lent afterwards. Assumes
-- nothing.
use Rattle.std.specs.Prelude.{ℕ, true, cond, List, eqb, length}
use Rattle.job.specs.Records.{Checked}
use Rattle.job.specs.Check.{Checks, job_check, short_buffer_lem, short_reasons, or_else}
use Rattle.job.specs.Job.{job_of}
use Rattle.machine.specs.Table.{Lent, statuses}
use Rattle.machine.specs.Step.{is_finished}
use Rattle.machine.specs.Advance.{steps, steps_made, meetings_made}
use Rattle.machine.specs.Operations.{StartOutcome, start_leaves, start_refused, AdvanceOutcome, advance_refused}
use Rattle.bit_machine.specs.Answers.{Counted}
use Rattle.bit_machine.specs.BitTable.{bits_size, done_bits}
use Rattle.bit_machine.specs.Machine.{as_bytes, started_bits, steps_bits}

-- Refused calls, 10: a bit table that is too short, with the table's place
abbrev pub short_bits : List ℕ → Checked
short_bits bits = short_buffer_lem (length bits) bits_size 1

-- the checks of start and advance: the buffers, then the job, with an initial state; by the checks of a job
unfoldable pub bits_check_by : Checks → List ℕ → Lent → Checked
bits_check_by checks job m = or_else (or_else (short_bits m.table) (short_reasons m.reasons)) (checks true job)

-- and by the checks of this product
abbrev pub bits_check_lem : List ℕ → Lent → Checked
bits_check_lem = bits_check_by job_check

-- start answers the number of states
unfoldable pub start_bits_by : Checks → List ℕ → Lent → StartOutcome
start_bits_by checks job m =
    cond (eqb (bits_check_by checks job m).number 0)
    (start_leaves (record { number = 0; place = 0; states = (job_of job).states }) (started_bits (job_of job) m))
    (start_refused (bits_check_by checks job m) m)

abbrev pub start_bits_of : List ℕ → Lent → StartOutcome
start_bits_of = start_bits_by job_check

-- advance answers what it answers of the byte table that says the same
unfoldable pub advance_bits_by : Checks → List ℕ → Lent → ℕ → AdvanceOutcome
advance_bits_by checks job m n =
    cond (eqb (bits_check_by checks job m).number 0)
    (record {
      answer =
          record {
            number = 0;
            place = 0;
            finished = is_finished (statuses (steps (job_of job).rules n (as_bytes m)).table);
            steps = steps_made (job_of job).rules n (as_bytes m);
            meetings = meetings_made (job_of job).rules n (as_bytes m);
          };
      lent = steps_bits (job_of job).rules n m;
    })
    (advance_refused (bits_check_by checks job m) m)

abbrev pub advance_bits_of : List ℕ → Lent → ℕ → AdvanceOutcome
advance_bits_of = advance_bits_by job_check

-- The bit table: the done count, of the bit table alone; refused, it is 0
unfoldable pub done_count_of : List ℕ → Counted
done_count_of bits =
    cond (eqb (short_bits bits).number 0) (record { number = 0; place = 0; count = done_bits bits })
    (record { number = (short_bits bits).number; place = (short_bits bits).place; count = 0 })
