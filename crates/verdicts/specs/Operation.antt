-- The whole outcome of the verdicts, for every input: the answer, the table and the codes. Assumes nothing.
use Rattle.std.specs.Prelude.{ℕ, false, cond, List, eqb}
use Rattle.job.specs.Records.{Checked}
use Rattle.job.specs.Check.{Checks, job_check, short_table, short_codes, or_else}
use Rattle.job.specs.Job.{Job, job_of}
use Rattle.job.specs.Written.{written, cleared}
use Rattle.verdicts.specs.Answers.{Verdicts}
use Rattle.verdicts.specs.Verdicts.{code_of, is_empty, growing}

-- the checks of the verdicts: 10, then the job's without 9, as the verdicts use only the rules and S; by the checks of
-- a job
unfoldable pub verdicts_check_by : Checks → List ℕ → List ℕ → List ℕ → Checked
verdicts_check_by checks job table codes = or_else (or_else (short_table table) (short_codes codes)) (checks false job)

-- and by the checks of this product
abbrev pub verdicts_check_lem : List ℕ → List ℕ → List ℕ → Checked
verdicts_check_lem = verdicts_check_by job_check

-- what the verdicts leave: the answer, the table and the codes
pub record VerdictsOutcome : Type 0 where
  pub answer : Verdicts
  pub table : List ℕ
  pub codes : List ℕ

abbrev pub verdicts_leave : Verdicts → List ℕ → List ℕ → VerdictsOutcome
verdicts_leave a t c = record { answer = a; table = t; codes = c }

-- Verdicts: what they leave for a job. The first 64 codes are written, and the table, lent as scratch, is 0 in its
-- first 65,536 bytes afterwards.
unfoldable pub verdicts_on : Job → List ℕ → List ℕ → VerdictsOutcome
verdicts_on J table codes =
    record {
      answer =
          record {
            number = 0;
            place = 0;
            empty = is_empty J.rules J.start;
            growing = growing J.rules J.start;
          };
      table = cleared 65536 table;
      codes = written (code_of J.rules J.start) 0 64 codes;
    }

-- Refused calls: with a refusal each yes or no is no, and nothing lent changes
abbrev pub verdicts_refused : Checked → List ℕ → List ℕ → VerdictsOutcome
verdicts_refused c table codes =
    verdicts_leave (record { number = c.number; place = c.place; empty = false; growing = false }) table codes

-- The outcome of a call
unfoldable pub verdicts_by : Checks → List ℕ → List ℕ → List ℕ → VerdictsOutcome
verdicts_by checks job table codes =
    cond (eqb (verdicts_check_by checks job table codes).number 0) (verdicts_on (job_of job) table codes)
    (verdicts_refused (verdicts_check_by checks job table codes) table codes)

-- and by the checks of this product
abbrev pub verdicts_of : List ℕ → List ℕ → List ℕ → VerdictsOutcome
verdicts_of = verdicts_by job_check
