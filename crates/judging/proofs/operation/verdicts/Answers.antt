-- `operation::verdicts`: refused, nothing is touched; else the keys are those of the job's rules, so what is judged is
-- said of the job. Assumes nothing.
use Rattle.grammar.proofs.Basics.{◌≡◌, ◌∙◌, sym, List, ℕ, arith, refl}
use Rattle.grammar.specs.Rule.{Rule}
use Rattle.job.specs.Job.{Job, job_of}
use Rattle.job.specs.Written.{written, cleared}
use Rattle.job.proofs.AcceptedFacts.{job_start, start_below}
use Rattle.job.proofs.Keys.{job_keys, job_rules}
use Rattle.job.specs.Inside.Keys.{rules_of_keys}
use Rattle.job.proofs.Refusals.{not_zero}
use Rattle.verdicts.specs.declared.Judged.{Judged}
use Rattle.verdicts.specs.Verdicts.{is_empty, growing, code_of}
use Rattle.std.proofs.lemmas.Result.{err_from_is_err_and}
use Rattle.job.specs.Check.{accepted}
use Rattle.verdicts.specs.Operation.{verdicts_check_lem, verdicts_on, verdicts_leave}
use Rattle.verdicts.proofs.Outcome.{unrefused, verdicts_given, verdicts_refused_lem}
use Rattle.judging.proofs.operation.verdicts.Goals as goal

-- what is left, by the job's rules and start symbol
left : (J : Job) (table codes : List ℕ) {rules : List Rule} {S : ℕ} {judged : Judged} {table' codes' : List ℕ} →
    rules ≡ J.rules → S ≡ J.start →
    table' ≡ cleared 65536 table →
    judged.empty ≡ is_empty rules S → judged.growing ≡ growing rules S →
    codes' ≡ written (code_of rules S) 0 64 codes →
    verdicts_leave (record { number = 0; place = 0; empty = judged.empty; growing = judged.growing }) table' codes'
    ≡ verdicts_on J table codes
unfolding verdicts_on
left J table codes e f t n g w = rw (t, n, g, w, e, f)

-- a call that passes
passed : (job table codes : List ℕ) → accepted ≡ verdicts_check_lem job table codes
    → (verdicts_check_lem job table codes).number ≡ 0
passed job table codes e = rw (← e) refl

pub returns-in_err-verdicts_check : goal.returns-in_err-verdicts_check
returns-in_err-verdicts_check c =
    record {
      left =
          let p = err_from_is_err_and c.from_residual.result c.from_residual.ensures.1 in
          rw (p.1, p.2)
          (sym (verdicts_refused_lem _ _ _ _ c.in_err-verdicts_check.ensures.checked
          (not_zero c.in_err-verdicts_check.field-0.0.cause)));
    }

pub sorted_rules-keys-requires : goal.sorted_rules-keys-requires
sorted_rules-keys-requires c =
    record { few = (unrefused _ _ _ (passed _ _ _ c.in_ok-verdicts_check.ensures.checked)).passes.few_rules }

pub clear_table-requires : goal.clear_table-requires
clear_table-requires c =
    record { long = (unrefused _ _ _ (passed _ _ _ c.in_ok-verdicts_check.ensures.checked)).table_long_lem }

pub judge-requires : goal.judge-requires
judge-requires c =
    let u = unrefused _ _ _ (passed _ _ _ c.in_ok-verdicts_check.ensures.checked) in
    record {
      rules = rw c.as_slice.ensures (job_keys u.passes c.sorted_rules-keys.ensures.sorted);
      start = omega (arith, c.field_of-start.ensures.field, job_start c.args.job.now, start_below u.passes);
      lent = u.codes_long;
    }

pub returns : goal.returns
returns c =
    record {
      left =
          let job = c.args.job.now in
          let z = passed _ _ _ c.in_ok-verdicts_check.ensures.checked in
          let u = unrefused _ _ _ z in
          let rules : rules_of_keys c.as_slice.result.now ≡ (job_of job).rules =
          rw c.as_slice.ensures (job_rules u.passes c.sorted_rules-keys.ensures.sorted) in
          left (job_of job) c.args.table.now c.args.codes.now rules
          (c.field_of-start.ensures.field ∙ sym (job_start job)) c.clear_table.ensures.cleared c.judge.ensures.empty
          c.judge.ensures.growing c.judge.ensures.codes
          ∙ sym (verdicts_given _ _ _ z);
    }
