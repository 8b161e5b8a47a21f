-- A table that a start and steps have written has no byte 3, as a start writes 0 and 1 and a step 2 and 1; and its
-- reasons lead down. So a form can be explained on it. Assumes nothing.
use Rattle.grammar.proofs.Basics.{◌≡◌, refl, true, false, Bool, cond, ◌||◌, List, ℕ, ◌<◌, ◌≤◌, arith, eqb, length}
use Rattle.grammar.proofs.Basics.{get_or, lt-leb}
use Rattle.grammar.specs.Rule.{Rule}
use Rattle.job.specs.Job.{Job, job_of}
use Rattle.machine.specs.Table.{Lent, table_size, from_state, symbol_at, to_state, Statuses, statuses}
use Rattle.machine.specs.Start.{started, start_byte, is_empty_at}
use Rattle.machine.specs.Step.{comes_in, taking}
use Rattle.machine.specs.Advance.{steps}
use Rattle.machine.proofs.MachineChecks.{Passed}
use Rattle.job.proofs.AcceptedFacts.{in_range}
use Rattle.machine.proofs.Tables.Each.{get_or_each_0}
use Rattle.machine.proofs.Steps.Taking.{taking_length}
use Rattle.machine.proofs.Starts.StartLaws.{started_length, started_length_reasons}
use Rattle.machine.proofs.Steps.StepLaws.{steps_keep, steps_keep_rest}
use Rattle.machine.proofs.Reasons.Runs.{run_reasons_fit_lem}
use Rattle.forms.specs.Listing.{is_listed}
use Rattle.forms.specs.Inside.ExplainParts.{Explainable}
use Rattle.forms.proofs.Grounding.{grounded_by_reasons}

-- a byte picked from bytes that are not 3
picked : (b : Bool) (x y : ℕ) → eqb x 3 ≡ false → eqb y 3 ≡ false → eqb (cond b x y) 3 ≡ false
picked true x y e f = e
picked false x y e f = f

-- full size, and nothing listed
record Unlisted (m : Lent) : Type 0 where
  long : table_size ≤ length m.table
  none_listed : (p : ℕ) → p < table_size → is_listed m.table p ≡ false

started_unlisted : (J : Job) (m : Lent) → table_size ≤ length m.table → Unlisted (started J m)
unfolding started
started_unlisted J m long =
    record {
      long = omega (arith, long, started_length J m);
      none_listed = λ p h. rw (get_or_each_0 (start_byte J) m.table p (omega (arith, long)), lt-leb table_size p h)
          (picked (J.given (from_state p) (symbol_at p) (to_state p) || is_empty_at J (from_state p) (symbol_at p)
          (to_state p)) 1 0 refl refl);
    }

taking_unlisted : (ρs : List Rule) (k : ℕ) (m : Lent) → Unlisted m → Unlisted (taking ρs k m)
unfolding taking
taking_unlisted ρs k m u =
    record {
      long = omega (arith, u.long, taking_length ρs k m);
      none_listed = λ p h.
          let old : ℕ = get_or m.table p 0 in
          let v : Statuses = statuses m.table in
          let new : Bool = comes_in ρs v k (from_state p) (symbol_at p) (to_state p) in
          rw (get_or_each_0 _ m.table p (omega (arith, u.long)), lt-leb table_size p h)
          (picked (eqb p k) 2 _ refl (picked new 1 old refl (u.none_listed p h)));
    }

-- a form can be explained after any number of steps
pub run_explainable : (job : List ℕ) (m : Lent) → Passed job m → (n : ℕ) →
    Explainable job (steps (job_of job).rules n (started (job_of job) m))
run_explainable job m passed n =
    let J : Job = job_of job in
    let range = in_range passed.ok in
    let u = steps_keep Unlisted J.rules (λ m' f. taking_unlisted J.rules _ m') n _
    (started_unlisted J m passed.long) in
    record {
      job_accepted = passed.ok;
      listable =
          record {
            long = u.long;
            reasons_long_lem =
                omega (
                  arith,
                  passed.long_reasons,
                  started_length_reasons J m,
                  (steps_keep_rest J.rules n (started J m)).long_reasons,
                );
            grounded = grounded_by_reasons J range _
                (run_reasons_fit_lem J range m passed.long passed.long_reasons n);
          };
      none_listed = u.none_listed;
    }
