-- Where a run stands after a start that is not refused and advances: what is lent, read as bytes, and the sums of the
-- counts, are those of as many steps from the start as were asked for. Steps and counts add up, so an advance keeps
-- this. Assumes nothing.
use Rattle.grammar.proofs.Basics.{◌≡◌, refl, ◌∙◌, sym, ap, List, ℕ, ◌+◌, arith}
use Rattle.job.specs.Job.{job_of}
use Rattle.machine.specs.Table.{Lent, KeepsRest}
use Rattle.machine.specs.Start.{started}
use Rattle.machine.specs.Advance.{steps, steps_made, meetings_made}
use Rattle.machine.proofs.Steps.StepLaws.{rest_after, steps_add, steps_made_add}
use Rattle.machine.proofs.Steps.MeetingsMade.{meetings_made_add}
use Rattle.claims.specs.Call.{Kind, size_of}
use Rattle.claims.proofs.EitherTable.{check_on, started_on, steps_on, read, check_passed, started_read, steps_read}
use Rattle.claims.proofs.EitherTable.{started_keeps, steps_keeps}
use Rattle.claims.proofs.LentKept.{number_stays}

-- `from` is what was lent to the start
pub record Since (t : Kind) (job : List ℕ) (m : Lent) (asked made met : ℕ) : Type 0 where
  pub from : Lent
  pub passed : (check_on t job from).number ≡ 0
  pub kept : KeepsRest (size_of t) from m
  pub lent : read t m ≡ steps (job_of job).rules asked (started (job_of job) (read t from))
  pub steps_so : made ≡ steps_made (job_of job).rules asked (started (job_of job) (read t from))
  pub meetings_so : met ≡ meetings_made (job_of job).rules asked (started (job_of job) (read t from))

module _ (t : Kind) (job : List ℕ) where
  pub since_start_lem : (m : Lent) → (check_on t job m).number ≡ 0 → Since t job (started_on t (job_of job) m) 0 0 0
  unfolding steps steps_made meetings_made
  since_start_lem m e =
      record {
        from = m;
        passed = e;
        kept = started_keeps m t (job_of job);
        lent = started_read m t (job_of job) (check_passed t job m e).long;
        steps_so = refl;
        meetings_so = omega arith;
      }

  module _ (m : Lent) (a s k : ℕ) (since : Since t job m a s k) where
    -- neither start nor advance is refused
    pub since_passes : (check_on t job m).number ≡ 0
    since_passes = number_stays t job since.from m since.kept since.passed

    pub since_steps : (n : ℕ) →
        Since t job (steps_on t (job_of job).rules n m) (a + n) (s + steps_made (job_of job).rules n (read t m))
        (k + meetings_made (job_of job).rules n (read t m))
    since_steps n =
        let ρs = (job_of job).rules in
        let now = started (job_of job) (read t since.from) in
        record {
          from = since.from;
          passed = since.passed;
          kept = rest_after _ since.from m (steps_on t ρs n m) since.kept (steps_keeps m t ρs n);
          lent =
              steps_read m t ρs n (check_passed t job m since_passes).long ∙ ap (steps ρs n) since.lent
              ∙ sym (steps_add ρs a n now);
          steps_so = rw since.lent (omega (arith, since.steps_so, steps_made_add ρs a n now));
          meetings_so = rw since.lent (omega (arith, since.meetings_so, meetings_made_add ρs a n now));
        }
