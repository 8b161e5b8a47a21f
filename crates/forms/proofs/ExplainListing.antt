-- What explain lists: where its checks refuse nothing, the job is in range and its finished table's reasons fit, so
-- that the theorems on listings hold of the route, and the bytes written are the records. Assumes nothing.
use Rattle.grammar.proofs.Basics.{◌≡◌, refl, ap, true, Bool, List, ◌++◌, ℕ, ◌*◌, arith, length, drop, length-drop}
use Rattle.grammar.proofs.Basics.{eq-eqb}
use lib.Seq.{take-append-le, drop-append-le}
use Rattle.grammar.specs.Rule.{Rule}
use Rattle.job.specs.Job.{job_of}
use Rattle.machine.specs.Table.{Lent, done_at_lem}
use Rattle.machine.specs.Smallest.{DecidesSmallest}
use Rattle.machine.specs.Theorems.Entries.{AbsentHaveNone}
use Rattle.machine.proofs.MachineChecks.{Passed}
use Rattle.job.proofs.AcceptedFacts.{in_range}
use Rattle.machine.proofs.Starts.StartLaws.{started_length}
use Rattle.machine.proofs.Reasons.Runs.{run_reasons_fit_lem}
use Rattle.machine.proofs.Starts.StartCounts.{run_long, run_finished_smallest}
use Rattle.machine.proofs.Steps.StepLaws.{finishes}
use Rattle.forms.specs.Listing.{Listed, records_at}
use Rattle.forms.specs.Operations.{accepts_on, explain_check_lem, finished_from, listed_for, explain_of, explain_by}
use Rattle.forms.specs.Inside.AcceptanceParts.{FormFits}
use Rattle.forms.specs.Inside.ExplainParts.{Explainable}
use Rattle.forms.specs.Theorems.ListingTheorems.{RecordsSay}
use Rattle.forms.specs.Theorems.ExplainTheorems.{Explains}
use Rattle.forms.proofs.AskAnswers.{initial_state}
use Rattle.forms.proofs.Passes.{records_length}
use Rattle.forms.proofs.ListingTheorems.{listing_is_right_lem, records_are_right_lem}
use Rattle.forms.proofs.Grounding.{true_by_reasons}
use Rattle.forms.proofs.ExplainChecks.{explain_passed}
use Rattle.forms.proofs.Explaining.{route_listable}
use Rattle.forms.proofs.ExplainCases.{accepted_leaves}
use Rattle.forms.proofs.ExplainLaws.{explain_says, explain_reasons}
use Rattle.forms.proofs.Unlisted.{run_explainable}

-- the records at the front of the listing buffer
records_written_lem : (ρs : List Rule) (given : ℕ → ℕ → ℕ → Bool) (s : ℕ) (reasons places rest : List ℕ) →
    RecordsSay ρs given s reasons places (records_at ρs reasons places) →
    RecordsSay ρs given s reasons places (records_at ρs reasons places ++ rest)
records_written_lem ρs given s reasons places rest say i h =
    let bytes : List ℕ = records_at ρs reasons places in
    let size : length bytes ≡ 8 * length places = records_length ρs reasons places in
    rw (
      drop-append-le (8 * i) bytes rest (omega arith),
      take-append-le 8 (drop (8 * i) bytes) rest (simp length-drop (omega arith)),
    )
    (say i h)

module _ (job : List ℕ) (m : Lent) (form : List ℕ) (unrefused : (explain_check_lem job m form).number ≡ 0) where
  passed : Passed job m × FormFits form
  passed = explain_passed job m form _ refl unrefused

  pub explainable : Explainable job (finished_from (job_of job) m)
  explainable = run_explainable job m passed.0 65536

  pub finished_smallest : DecidesSmallest (job_of job) (done_at_lem (finished_from (job_of job) m).table)
  finished_smallest =
      run_finished_smallest (job_of job) (in_range passed.0.ok) m passed.0.long 65536
      (finishes _ 65536 _ (omega (arith, started_length (job_of job) m, passed.0.long)) (omega arith))

  pub explain_lists_lem : accepts_on (job_of job) (finished_from (job_of job) m).table form ≡ true → (out : List ℕ) →
      Explains (job_of job) (finished_from (job_of job) m) form (explain_of job m form out)
  unfolding listed_for explain_by
  explain_lists_lem accepts out =
      let f : Lent = finished_from (job_of job) m in
      let l : Listed = listed_for (job_of job) f form in
      let range = in_range passed.0.ok in
      let listable = route_listable explainable passed.1 accepts in
      let (lent, left) = accepted_leaves (job_of job) f form out accepts in
      rw (eq-eqb _ 0 unrefused)
      (record {
        listable = listable;
        listing = listing_is_right_lem listable;
        table = ap (λ n. n.table) lent;
        reasons = ap (λ n. n.reasons) lent;
        counted = λ e. (left e).0;
        records = λ e. rw (left e).1
            (records_written_lem _ _ (job_of job).states f.reasons l.places _
            (records_are_right_lem listable
            (true_by_reasons (job_of job) range f
            (run_reasons_fit_lem (job_of job) range m passed.0.long passed.0.long_reasons 65536)
            finished_smallest)));
      })

  pub explain_absent_have_none_lem : (out : List ℕ) → AbsentHaveNone (explain_of job m form out).lent
  unfolding explain_by
  explain_absent_have_none_lem out =
      let f : Lent = finished_from (job_of job) m in
      let range = in_range passed.0.ok in
      let initial = initial_state passed.0.ok in
      let long = run_long (job_of job) range m passed.0.long 65536 in
      let reasons = run_reasons_fit_lem (job_of job) range m passed.0.long passed.0.long_reasons 65536 in
      rw (
        eq-eqb _ 0 unrefused,
        explain_says (job_of job) range initial form passed.1.symbols f out reasons long,
        explain_reasons (job_of job) range initial form passed.1.symbols f out,
      )
      reasons.none
