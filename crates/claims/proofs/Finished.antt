-- Demand 2: advances after a start are steps from it, so a finished one leaves the smallest set, and acceptance there
-- is membership in pre*; what a table says is read of its bytes. Explain starts, runs to the end, and marks only what
-- is done. Assumes nothing.
use Rattle.grammar.proofs.Basics.{◌≡◌, refl, ap, ◌↔◌, true, List, ◌∷◌, [], ℕ, ◌<◌, ◌≤◌, arith, eqb, length}
use Rattle.grammar.proofs.Basics.{eqb-true, le_refl, cases}
use Rattle.grammar.specs.Rule.{head}
use Rattle.grammar.specs.Closure.{Closure}
use Rattle.grammar.proofs.Paths.{path_grows}
use Rattle.grammar.proofs.Smallest.{closure_closed, closure_least}
use Rattle.job.specs.Accepted.{Accepted}
use Rattle.job.specs.Check.{job_check}
use Rattle.job.specs.Job.{Job, job_of}
use Rattle.job.specs.Theorems.InRange.{InRange}
use Rattle.job.proofs.Accepted.{accepted_check}
use Rattle.job.proofs.AcceptedFacts.{in_range, initial_below}
use Rattle.machine.specs.Table.{Lent, Statuses, table_size, done_in, done_at_lem, statuses}
use Rattle.machine.specs.Start.{started}
use Rattle.machine.specs.Step.{is_finished}
use Rattle.machine.specs.Smallest.{Smallest, DecidesSmallest}
use Rattle.machine.specs.Operations.{machine_check_lem, advance_of, advance_by}
use Rattle.machine.proofs.Growing.SmallestRange.{job_in_range, smallest_states, smallest_symbol}
use Rattle.machine.proofs.Starts.StartCounts.{run_long, run_finished_smallest}
use Rattle.machine.proofs.Starts.StartLaws.{started_length}
use Rattle.machine.proofs.Steps.FirstPart.{done_agree}
use Rattle.machine.proofs.Steps.StepLaws.{finished_steps, finishes}
use Rattle.machine.proofs.Reasons.Runs.{run_reasons_fit_lem}
use Rattle.forms.specs.Acceptance.{SymbolsFit, DerivesGiven}
use Rattle.forms.specs.Operations.{accepts_by, explain_check_lem, finished_from, explain_finished_lem, explain_by}
use Rattle.forms.proofs.AskAnswers.{initial_state}
use Rattle.forms.proofs.ExplainListing.{finished_smallest}
use Rattle.forms.proofs.ExplainCases.{explain_answer}
use Rattle.forms.proofs.ExplainChecks.{explain_passed}
use Rattle.forms.proofs.ExplainLaws.{explain_keeps, explain_says}
use Rattle.forms.proofs.FormChecks.{fits_of_check}
use Rattle.forms.proofs.Membership.{accepted_is_derived}
use Rattle.claims.specs.Call.{Kind, bytes, size_of, says_of, start_on, advance_on}
use Rattle.claims.specs.FinishedTables.{advances, DoneSet, Finished, ExplainRight, AfterAdvances}
use Rattle.claims.specs.FinishedTables.{FinishedTables}
use Rattle.claims.proofs.EitherTable.{check_on, steps_on, read, start_is, advance_is, ask_is, check_passed}
use Rattle.claims.proofs.EitherTable.{ask_check_accepts, read_long, read_says, steps_read}
use Rattle.claims.proofs.SinceStart.{Since, since_start_lem, since_passes, since_steps}

module _ (job : List ℕ) (ok : Accepted true job) where
  abbrev J : Job
  J = job_of job

  range : InRange J
  range = in_range ok

  derived : (v : Statuses) → DecidesSmallest J (done_in v) → (form : List ℕ) → SymbolsFit form →
      (accepts_by J v form ≡ true) ↔ DerivesGiven J form
  derived v = accepted_is_derived J (done_in v) range.states (job_in_range J range).states (initial_below ok refl)

  -- a done set that is the closure is the smallest closed set, and acceptance on it is derivation
  holds_smallest : (k : Kind) (m : Lent) → size_of k ≤ length m.table →
      DecidesSmallest J (done_in (says_of k m.table)) → Finished k job m
  holds_smallest k m long decides =
      let v = says_of k m.table in
      let into : (q X r : ℕ) → Smallest J q X r → DoneSet v q X r = λ q X r c.
      let states = smallest_states J range q X r c in
      let ql : q < 32 = omega (arith, states.0, range.states) in
      let rl : r < 32 = omega (arith, states.1, range.states) in
      let xl = smallest_symbol J range q X r c in
      (ql, xl, rl, (decides q X r ql xl rl).1 c) in
      let out : (q X r : ℕ) → DoneSet v q X r → Smallest J q X r =
      λ q X r d. (decides q X r d.0 d.1 d.2).0 d.3 in
      record {
        smallest =
            record {
              states = λ q X r d. smallest_states J range q X r (out q X r d);
              closed =
                  record {
                    given = λ q X r d. into q X r (Closure.given d);
                    saturated = λ ρ q r member l path.
                        into q (head ρ) r (closure_closed.saturated ρ q r member l (path_grows out path));
                  };
              least = λ test closed q X r d. closure_least (job_in_range J range).states closed q X r (out q X r d);
            };
        closure = decides;
        accepts = λ form fits.
            rw (ask_is k job m.table form, ask_check_accepts k job m.table form long (accepted_check ok) fits)
            (derived v decides form (fits_of_check form (ap (λ c. c.number) fits)).symbols);
      }

-- advances after a start
abbrev SinceSome : Kind → List ℕ → Lent → Type 0
SinceSome t job m = (a : ℕ) × (s : ℕ) × (k : ℕ) × Since t job m a s k

advances_since : (t : Kind) (job : List ℕ) (m : Lent) (ns : List ℕ) → SinceSome t job m →
    SinceSome t job (advances t job m ns)
unfolding advances
advances_since t job m [] some = some
advances_since t job m (n ∷ ns) some =
    let (a, s, k, since) = some in
    advances_since t job (advance_on t job_check job m n).lent ns
    (rw (advance_is t job m n, since_passes t job m a s k since) (_, _, _, since_steps t job m a s k since n))

-- the smallest set is decided by the table as it is read
decides_read : (t : Kind) (J : Job) (m : Lent) → DecidesSmallest J (done_at_lem (read t m).table) →
    DecidesSmallest J (done_in (says_of t m.table))
decides_read t J m decides q X r ql xl rl =
    rw (← done_agree (statuses (read t m).table) (says_of t m.table) (read_says m t) q X r ql xl rl)
    (decides q X r ql xl rl)

since_finished_table : (t : Kind) (job : List ℕ) (m : Lent) → SinceSome t job m →
    is_finished (statuses (read t m).table) ≡ true → Finished t job m
since_finished_table t job m some f =
    let (a, s, k, since) = some in
    let passed = check_passed t job since.from since.passed in
    let now = check_passed t job m (since_passes t job m a s k since) in
    holds_smallest job passed.ok t m now.long
    (decides_read t (job_of job) m
    (rw since.lent
    (run_finished_smallest (job_of job) (in_range passed.ok) (read t since.from)
    (read_long since.from t passed.long) a (rw since.lent at f))))

start_passes : (t : Kind) (job : List ℕ) (m : Lent) → (start_on t job_check job m).answer.number ≡ 0 →
    (check_on t job m).number ≡ 0
start_passes t job m e =
    let number = rw (start_is t job m) at e in
    cases (eqb (check_on t job m).number 0) (eqb-true (check_on t job m).number 0) (λ f. rw f at number)

-- one advance more, which says finished
finished_next : (t : Kind) (job : List ℕ) (m : Lent) (n : ℕ) → SinceSome t job m →
    (advance_on t job_check job m n).answer.finished ≡ true → Finished t job (advance_on t job_check job m n).lent
finished_next t job m n some fin =
    let (a, s, k, since) = some in
    let passes = since_passes t job m a s k since in
    let long = (check_passed t job m passes).long in
    rw (advance_is t job m n, passes)
    (since_finished_table t job (steps_on t (job_of job).rules n m) (_, _, _, since_steps t job m a s k since n)
    (rw (steps_read m t (job_of job).rules n long) (rw (advance_is t job m n, passes) at fin)))

after_advances : AfterAdvances
after_advances t job m ns n ok fin =
    let begins = start_passes t job m ok in
    let now = (start_on t job_check job m).lent in
    finished_next t job (advances t job now ns) n
    (advances_since t job now ns (rw (start_is t job m, begins) (0, 0, 0, since_start_lem t job m begins))) fin

-- advances leave a finished table as it is
module _ (job : List ℕ) (m : Lent) (f : is_finished (statuses m.table) ≡ true) where
  advance_stays : (n : ℕ) → (advance_of job m n).lent ≡ m
  unfolding advance_by
  advance_stays n =
      cases (eqb (machine_check_lem job m).number 0) (λ t. rw t (finished_steps (job_of job).rules n m f)) (λ t. rw t)

  finished_stays : (ns : List ℕ) → advances bytes job m ns ≡ m
  unfolding advances
  finished_stays [] = refl
  finished_stays (n ∷ ns) = rw (advance_stays n) (finished_stays ns)

explain_right : (job : List ℕ) (m : Lent) (form out : List ℕ) → (explain_check_lem job m form).number ≡ 0 →
    ExplainRight job m form out
unfolding explain_by
explain_right job m form out e =
    let (passed, fits) = explain_passed job m form _ refl e in
    let ok = passed.ok in
    let fit = fits.symbols in
    let initial = initial_state ok in
    let now = finished_from (job_of job) m in
    let left = (explain_finished_lem (job_of job) now form out).lent in
    let smallest = finished_smallest job m form e in
    let long = run_long (job_of job) (in_range ok) m passed.long 65536 in
    let reasons = run_reasons_fit_lem (job_of job) (in_range ok) m passed.long passed.long_reasons 65536 in
    let marked = explain_says (job_of job) (in_range ok) initial form fit now out reasons long in
    let begun : table_size ≤ length (started (job_of job) m).table
    = omega (arith, started_length (job_of job) m, passed.long) in
    record {
      finished = rw e
          (holds_smallest job ok bytes left
          (omega (arith, long, (explain_keeps (job_of job) (in_range ok) initial form fit now out).long_table))
          (rw marked smallest));
      stays = rw e
          (finished_stays job left
          (rw marked (finishes (job_of job).rules table_size (started (job_of job) m) begun (le_refl table_size))));
      answered =
          rw e
          (λ z. rw (explain_answer (job_of job) now form out z)
          (derived job ok (statuses now.table) smallest form fit));
    }

pub finished_tables_lem : FinishedTables
unfolding FinishedTables
finished_tables_lem = (after_advances, explain_right)
