-- `operation::clean`: refused, nothing is touched; else the job is accepted, and its keys are those of its rules. Assumes
-- nothing.
use Rattle.grammar.proofs.Basics.{◌≡◌, refl, ◌∙◌, sym, ap, false, List, ℕ, arith}
use Rattle.std.proofs.lemmas.Result.{err_from_is_err_and}
use Rattle.job.specs.Check.{accepted, job_check}
use Rattle.job.specs.Accepted.{Accepted}
use Rattle.job.specs.Job.{job_of}
use Rattle.job.specs.Inside.Keys.{rules_of_keys}
use Rattle.job.proofs.Accepted.{number_accepted}
use Rattle.job.proofs.AcceptedFacts.{job_start, start_below}
use Rattle.job.proofs.Keys.{job_keys, job_rules}
use Rattle.job.proofs.Refusals.{not_zero}
use Rattle.copies.specs.Operation.{clean_on}
use Rattle.copies.proofs.Copied.{clean_accepted, clean_refused_lem}
use Rattle.clean.proofs.operation.clean.Goals as goal

-- a job that passes
passed : (job : List ℕ) → accepted ≡ job_check false job → Accepted false job
passed job e = number_accepted false job (rw (← e) refl)

pub returns-in_err-job_check : goal.returns-in_err-job_check
returns-in_err-job_check c =
    record {
      left =
          let p = err_from_is_err_and c.from_residual.result c.from_residual.ensures.1 in
          rw (p.1, p.2)
          (sym (clean_refused_lem _ _ _ c.in_err-job_check.ensures.checked (not_zero c.in_err-job_check.field-0.0.cause)));
    }

pub sorted_rules-keys-requires : goal.sorted_rules-keys-requires
sorted_rules-keys-requires c = record { few = (passed _ c.in_ok-job_check.ensures.checked).few_rules }

pub copy_rules-requires : goal.copy_rules-requires
copy_rules-requires c =
    let ok = passed _ c.in_ok-job_check.ensures.checked in
    record {
      rules = rw c.as_slice.ensures (job_keys ok c.sorted_rules-keys.ensures.sorted);
      start = omega (arith, c.field_of-start.ensures.field, job_start c.args.job.now, start_below ok);
    }

pub returns : goal.returns
returns c =
    record {
      left =
          let job = c.args.job.now in
          let ok = passed job c.in_ok-job_check.ensures.checked in
          let rules : rules_of_keys c.as_slice.result.now ≡ (job_of job).rules =
          rw c.as_slice.ensures (job_rules ok c.sorted_rules-keys.ensures.sorted) in
          let start : c.field_of-start.result ≡ (job_of job).start = c.field_of-start.ensures.field ∙ sym (job_start job) in
          c.copy_rules.ensures.left
          ∙ rw (rules, start) (sym (clean_accepted _ ok));
    }
