-- The whole outcome of clean, for every input: the answer and the buffer. Assumes nothing.
use Rattle.std.specs.Prelude.{ℕ, ◌*◌, false, cond, List, ◌++◌, eqb, length, drop}
use Rattle.grammar.specs.Rule.{Rule}
use Rattle.job.specs.declared.JobRecord.{JobRecord}
use Rattle.job.specs.Records.{Checked}
use Rattle.job.specs.Format.{bytes_of}
use Rattle.job.specs.Check.{Checks, job_check, room_check}
use Rattle.job.specs.Job.{job_of}
use Rattle.copies.specs.Answers.{Cleaned}
use Rattle.copies.specs.Copy.{clean_records}

-- what clean leaves: the answer and the buffer
pub record CleanOutcome : Type 0 where
  pub answer : Cleaned
  pub out : List ℕ

abbrev pub clean_leaves : Cleaned → List ℕ → CleanOutcome
clean_leaves a out = record { answer = a; out = out }

-- Refused calls: with a refusal no record is written
abbrev pub refusal : Checked → Cleaned
refusal c = record { number = c.number; place = c.place; records = 0 }

-- and nothing lent changes
abbrev pub clean_refused : Checked → List ℕ → CleanOutcome
clean_refused c out = clean_leaves (refusal c) out

-- Clean copies: the records stand at the front of the buffer, which is unchanged past them
abbrev pub records_written : List JobRecord → List ℕ → CleanOutcome
records_written rs out =
    clean_leaves (record { number = 0; place = 0; records = length rs }) (bytes_of rs ++ drop (4 * length rs) out)

-- Clean copies: 13 is the last check; by the rules and the start symbol
unfoldable pub clean_on : List Rule → ℕ → List ℕ → CleanOutcome
clean_on rules S out =
    cond (eqb (room_check (length (clean_records rules S)) (length out)).number 0)
    (records_written (clean_records rules S) out)
    (clean_refused (room_check (length (clean_records rules S)) (length out)) out)

-- The outcome of a call: the checks of the job without 9, as a copy has only the rules and S
unfoldable pub clean_by : Checks → List ℕ → List ℕ → CleanOutcome
clean_by checks job out =
    cond (eqb (checks false job).number 0) (clean_on (job_of job).rules (job_of job).start out)
    (clean_refused (checks false job) out)

-- and by the checks of this product
abbrev pub clean_of : List ℕ → List ℕ → CleanOutcome
clean_of = clean_by job_check
