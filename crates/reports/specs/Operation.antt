-- The whole outcome of the report, for every input: the answer, table and reasons, and the codes. Assumes nothing.
use Rattle.std.specs.Prelude.{ℕ, true, false, cond, List, [], ◌∷◌, eqb}
use Rattle.job.specs.Records.{Checked}
use Rattle.job.specs.Check.{job_check, short_table, short_reasons, short_codes, or_else}
use Rattle.job.specs.Job.{job_of}
use Rattle.machine.specs.Table.{Lent, lent_of}
use Rattle.machine.specs.Operations.{StartOutcome, AdvanceOutcome, start_of, advance_of}
use Rattle.forms.specs.Answers.{Asked}
use Rattle.forms.specs.Operations.{ask_of}
use Rattle.verdicts.specs.Operation.{VerdictsOutcome, verdicts_of}
use Rattle.printing.specs.declared.Report.{Report}

-- the first buffer that is too short: table, reasons, codes
abbrev pub short_lent_lem : Lent → List ℕ → Checked
short_lent_lem m codes = or_else (or_else (short_table m.table) (short_reasons m.reasons)) (short_codes codes)

-- the checks of the report: the buffers, then the job's, with an initial state
unfoldable pub report_check_lem : List ℕ → Lent → List ℕ → Checked
report_check_lem job m codes = or_else (short_lent_lem m codes) (job_check true job)

-- what the report leaves: the answer, table and reasons, and the codes
pub record ReportOutcome : Type 0 where
  pub answer : Report
  pub lent : Lent
  pub codes : List ℕ

abbrev pub report_leaves : Report → Lent → List ℕ → ReportOutcome
report_leaves a m codes = record { answer = a; lent = m; codes = codes }

-- Refused calls: a refused report counts 0 and says no throughout
abbrev pub refused_report : Checked → Report
refused_report c =
    record {
      number = c.number;
      place = c.place;
      states = 0;
      examined = 0;
      joins = 0;
      start = false;
      empty = false;
      growing = false;
    }

-- The report program: its six values are the number of states, the two counts of the run, whether the start symbol is
-- accepted, and the two verdicts. The reasons are those of the run; table and codes are as the verdicts leave them
abbrev pub report_from : StartOutcome → AdvanceOutcome → Asked → VerdictsOutcome → ReportOutcome
report_from started advanced asked judged =
    report_leaves
    (record {
      number = 0;
      place = 0;
      states = started.answer.states;
      examined = advanced.answer.steps;
      joins = advanced.answer.meetings;
      start = asked.accepted;
      empty = judged.answer.empty;
      growing = judged.answer.growing;
    })
    (lent_of judged.table advanced.lent.reasons)
    judged.codes

-- Table and machine: a run to the end is start and then 65,536 steps, which finish any table
unfoldable pub run_to_end : List ℕ → Lent → AdvanceOutcome
run_to_end job m = advance_of job (start_of job m).lent 65536

-- The report program: start, the run to the end, the form that is the start symbol alone asked on the table of the
-- run, and then the verdicts
unfoldable pub report_on : List ℕ → Lent → List ℕ → ReportOutcome
report_on job m codes =
    report_from (start_of job m) (run_to_end job m) (ask_of job (run_to_end job m).lent.table ((job_of job).start ∷ []))
    (verdicts_of job (run_to_end job m).lent.table codes)

-- The outcome of a call. Refused calls: nothing lent changes
unfoldable pub report_of : List ℕ → Lent → List ℕ → ReportOutcome
report_of job m codes =
    cond (eqb (report_check_lem job m codes).number 0) (report_on job m codes)
    (report_leaves (refused_report (report_check_lem job m codes)) m codes)
