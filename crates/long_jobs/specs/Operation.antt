-- The whole outcome of binarize, for every input. Assumes nothing.
use Rattle.std.specs.Prelude.{ℕ, ◌*◌, true, cond, List, map, ◌++◌, eqb, ltb, length, drop, Result, Ok, Err}
use Rattle.job.specs.declared.JobRecord.{JobRecord}
use Rattle.job.specs.Records.{Checked}
use Rattle.job.specs.Format.{bytes_of}
use Rattle.job.specs.Records.{refused, or_else}
use Rattle.job.specs.Check.{room_check, missing}
use Rattle.job.specs.declared.Refusal.{Refusal}
use Rattle.job.specs.Refusals.{number_of}
use Rattle.long_jobs.specs.Dialect.{long_records_lem, short_of}
use Rattle.long_jobs.specs.Check.{long_check_lem}
use Rattle.long_jobs.specs.Walk.{walked}

-- what binarize answers: a refusal's number and place, 0 and 0 where nothing is refused, and the number of records
-- written
pub record Binarized : Type 0 where
  pub number : ℕ
  pub place : ℕ
  pub records : ℕ

-- the answer of a refused call
abbrev pub refusal : ℕ → ℕ → Binarized
refusal number place = record { number = number; place = place; records = 0 }

-- what the code's answer says
abbrev pub binarized_of : Result ℕ Refusal → Binarized
binarized_of (Ok records) = record { number = 0; place = 0; records = records }
binarized_of (Err r) = refusal (number_of r.cause) r.place

-- the records that a long job is written as
abbrev pub job_records : List ℕ → List JobRecord
job_records longJob = (walked (long_records_lem longJob)).written

-- Long bodies: 2 for more than 16,384 bytes written, then 13 for a buffer that they do not fit into; by the number of
-- records written and the buffer's length
unfoldable pub size_check_lem : ℕ → ℕ → Checked
size_check_lem records room = cond (ltb 16384 (4 * records)) (refused 2 (4 * records)) (room_check records room)

-- Long bodies: the checks in their order. 8 and 9, after the second walk, are those of a job that needs an I: L is
-- neither S nor I
unfoldable pub binarize_check : List ℕ → List ℕ → Checked
binarize_check longJob out =
    or_else (long_check_lem longJob)
    (or_else (walked (long_records_lem longJob)).refusal
    (or_else (missing true (map short_of (long_records_lem longJob)))
    (size_check_lem (length (job_records longJob)) (length out))))

-- what binarize leaves: the answer and the buffer
pub record BinarizeOutcome : Type 0 where
  pub answer : Binarized
  pub job : List ℕ

abbrev pub binarize_leaves : Binarized → List ℕ → BinarizeOutcome
binarize_leaves a out = record { answer = a; job = out }

-- Long bodies: the job stands at the front of the buffer, which is unchanged past it and where the call is refused
unfoldable pub binarize_of : List ℕ → List ℕ → BinarizeOutcome
binarize_of longJob out =
    cond (eqb (binarize_check longJob out).number 0)
    (binarize_leaves (record { number = 0; place = 0; records = length (job_records longJob) })
    (bytes_of (job_records longJob) ++ drop (4 * length (job_records longJob)) out))
    (binarize_leaves
    (record { number = (binarize_check longJob out).number; place = (binarize_check longJob out).place; records = 0 }) out)
