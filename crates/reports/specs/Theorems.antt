-- What is proved of a report that is not refused. Assumes nothing.
use Rattle.std.specs.Prelude.{◌≡◌, ◌↔◌, ℕ, Bool, true, false, List, [], ◌∷◌}
use Rattle.grammar.specs.Rule.{Among}
use Rattle.grammar.specs.Counting.{meetings}
use Rattle.grammar.specs.Useful.{Productive}
use Rattle.grammar.specs.Growing.{Growing}
use Rattle.grammar.specs.Language.{Infinite, Finite}
use Rattle.job.specs.Job.{Job, job_of}
use Rattle.machine.specs.Smallest.{DecidesSmallest, SmallestCount}
use Rattle.machine.specs.Table.{Lent}
use Rattle.machine.specs.Operations.{start_of}
use Rattle.forms.specs.Acceptance.{DerivesGiven}
use Rattle.forms.specs.Operations.{ask_of}
use Rattle.verdicts.specs.Operation.{verdicts_of}
use Rattle.spelling.specs.Words.{ascii}
use Rattle.printing.specs.declared.Report.{Report}
use Rattle.printing.specs.Outputs.{report_output_lem}
use Rattle.claims.specs.Filed.{report_job}
use Rattle.reports.specs.Operation.{report_check_lem, run_to_end, report_of}

-- The report program: none of the four calls that a report is made of is refused, and the run goes to the end
pub record RunsThrough (job : List ℕ) (m : Lent) (codes : List ℕ) : Type 0 where
  pub started : (start_of job m).answer.number ≡ 0
  pub advanced : (run_to_end job m).answer.number ≡ 0
  pub finished : (run_to_end job m).answer.finished ≡ true
  pub asked : (ask_of job (run_to_end job m).lent.table ((job_of job).start ∷ [])).number ≡ 0
  pub judged : (verdicts_of job (run_to_end job m).lent.table codes).answer.number ≡ 0

-- so it is for each call that passes the checks of the report
unfoldable pub ReportsRunThrough : Type 0
ReportsRunThrough =
    (job : List ℕ) (m : Lent) (codes : List ℕ) → (report_check_lem job m codes).number ≡ 0 → RunsThrough job m codes

-- The report program: what the six values say of a job. States: the number of states. Examined: the number of
-- transitions of the smallest set. Joins: its pair meetings. Start: the start symbol derives a string of the
-- automaton. Empty: it derives no terminal string. Growing: the language is infinite.
pub record ReportMeans (J : Job) (r : Report) : Type 0 where
  pub states : r.states ≡ J.states
  pub examined : SmallestCount J r.examined
  pub joins : (test : ℕ → ℕ → ℕ → Bool) → DecidesSmallest J test → r.joins ≡ meetings test 32 J.rules
  pub start : (r.start ≡ true) ↔ DerivesGiven J (J.start ∷ [])
  pub empty : (r.empty ≡ true) ↔ (Productive (Among J.rules) J.start → ⊥)
  pub not_empty : (r.empty ≡ false) ↔ Productive (Among J.rules) J.start
  pub growing : (r.growing ≡ true) ↔ Growing (Among J.rules) J.start
  pub infinite : (r.growing ≡ true) ↔ Infinite (Among J.rules) J.start
  pub finite : (r.growing ≡ false) ↔ Finite (Among J.rules) J.start

-- so it is for each report that is not refused
unfoldable pub ReportsMean : Type 0
ReportsMean =
    (job : List ℕ) (m : Lent) (codes : List ℕ) → (report_check_lem job m codes).number ≡ 0 →
    ReportMeans (job_of job) (report_of job m codes).answer

-- The report program: on the sample job the report prints its six lines, whatever the lent buffers hold, if they are
-- long enough
unfoldable pub SampleReport : Type 0
SampleReport =
    (m : Lent) (codes : List ℕ) → (report_check_lem report_job.job m codes).number ≡ 0 →
    report_output_lem (report_of report_job.job m codes).answer
    ≡ ascii "states 3\nexamined 11\njoins 8\nstart yes\nempty no\ngrowing yes\n"
