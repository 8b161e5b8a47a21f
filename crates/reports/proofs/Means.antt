-- What the values of a report mean: those of a run to the end from a start are those of the smallest set, and the
-- verdicts are meant. Assumes nothing.
use Rattle.grammar.proofs.Basics.{◌≡◌, refl, ◌∙◌, sym, ap, subst, true, List, ◌∷◌, [], ℕ, zero, suc, arith}
use Rattle.job.specs.Job.{Job, job_of}
use Rattle.job.specs.Theorems.InRange.{InRange}
use Rattle.job.proofs.AcceptedFacts.{in_range, initial_below, start_below}
use Rattle.machine.specs.Table.{Lent, statuses, done_at_lem}
use Rattle.machine.specs.Smallest.{DecidesSmallest, SmallestCount}
use Rattle.machine.specs.Step.{is_finished}
use Rattle.machine.specs.Advance.{steps_made, meetings_made}
use Rattle.machine.proofs.Starts.StartCounts.{smallest_is_counted, run_finished, run_finished_meetings}
use Rattle.machine.proofs.Starts.StartCounts.{run_finished_smallest}
use Rattle.machine.proofs.Steps.StepLaws.{finishes}
use Rattle.machine.proofs.Growing.SmallestRange.{job_in_range}
use Rattle.forms.specs.Acceptance.{SymbolsFit}
use Rattle.forms.specs.Operations.{accepts_on}
use Rattle.forms.proofs.Membership.{accepted_is_derived}
use Rattle.verdicts.specs.Operation.{verdicts_of}
use Rattle.verdicts.proofs.Meant.{verdicts_meant}
use Rattle.printing.specs.declared.Report.{Report}
use Rattle.reports.specs.Operation.{ReportOutcome, report_check_lem, report_of}
use Rattle.reports.specs.Theorems.{ReportMeans, ReportsMean}
use Rattle.reports.proofs.Outcome.{report_given}
use Rattle.reports.proofs.Through.{Passed, report_passed, begun, ended, begun_long, ended_long, report_ran}
use Rattle.reports.proofs.Through.{verdicts_pass}

module _ {job : List ℕ} {m : Lent} {codes : List ℕ} (p : Passed job m codes) where
  abbrev J : Job
  J = job_of job

  range : InRange J
  range = in_range p.ok

  -- the values of the run
  abbrev pub values : Report
  values =
      record {
        number = 0;
        place = 0;
        states = J.states;
        examined = steps_made J.rules 65536 (begun p);
        joins = meetings_made J.rules 65536 (begun p);
        start = accepts_on J (ended p).table (J.start ∷ []);
        empty = (verdicts_of job (ended p).table codes).answer.empty;
        growing = (verdicts_of job (ended p).table codes).answer.growing;
      }

  fin : is_finished (statuses (ended p).table) ≡ true
  fin = finishes J.rules 65536 (begun p) (begun_long p) (omega arith)

  -- the run has the smallest set
  pub decides : DecidesSmallest J (done_at_lem (ended p).table)
  decides = run_finished_smallest J range m p.long 65536 fin

  -- the start symbol alone is a form
  start_symbols : SymbolsFit (J.start ∷ [])
  start_symbols zero l = omega (arith, start_below p.ok)
  start_symbols (suc i) l = absurd (omega arith)

  pub means : ReportMeans J values
  means =
      let counted = smallest_is_counted J range in
      let all = (run_finished J range m p.long counted.1 65536).0 fin in
      let v = verdicts_meant job (ended p).table codes (verdicts_pass job p.ok _ codes (ended_long p) p.long_codes) in
      record {
        states = refl;
        examined = subst (SmallestCount J) (sym all) counted.1;
        joins = run_finished_meetings J range m p.long 65536 fin;
        start = accepted_is_derived J (done_at_lem (ended p).table) range.states (job_in_range J range).states
            (initial_below p.ok refl) decides (J.start ∷ []) start_symbols;
        empty = v.empty;
        not_empty = v.not_empty;
        growing = v.growing;
        infinite = v.infinite;
        finite = v.finite;
      }

  pub values_given : (report_check_lem job m codes).number ≡ 0 → values ≡ (report_of job m codes).answer
  values_given e =
      ap (λ (o : ReportOutcome). o.answer)
      (report_ran p refl refl refl refl refl refl ∙ report_given job m codes (report_check_lem job m codes) refl e)

pub reports_mean_lem : ReportsMean
unfolding ReportsMean
reports_mean_lem job m codes e =
    let p = report_passed job m codes e in
    subst (ReportMeans (job_of job)) (values_given p e) (means p)
