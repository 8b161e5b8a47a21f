-- `explaining::explain`: a refusal passes on, and what passes the checks is started, run to the end and explained. Assumes
-- nothing.
use Rattle.grammar.proofs.Basics.{refl, arith}
use Rattle.std.proofs.lemmas.Result.{err_from_is_err_and}
use Rattle.job.proofs.Refusals.{not_zero}
use Rattle.forms.proofs.ExplainRuns.{refuses, may_start, may_explain, explains}
use Rattle.explaining.proofs.explain.Goals as goal

pub returns-in_err-explain_check : goal.returns-in_err-explain_check
returns-in_err-explain_check c =
    record {
      outcome =
          let p = err_from_is_err_and c.from_residual.result c.from_residual.ensures.1 in
          rw (p.1, p.2)
          (refuses _ _ _ c.in_err-explain_check.ensures.checked _ (not_zero c.in_err-explain_check.field-0.0.cause));
    }

pub run_from_start-requires : goal.run_from_start-requires
run_from_start-requires c =
    let (t, rs, ok) = may_start _ _ _ c.in_ok-explain_check.ensures.checked refl in
    record {
      long = (omega arith, t, rs);
      accepted = ok;
    }

pub explain_finished-requires : goal.explain_finished-requires
explain_finished-requires c = record {
  able = may_explain _ _ _ c.in_ok-explain_check.ensures.checked refl c.run_from_start.ensures.lent;
  alike = (omega arith, c.run_from_start.ensures.alike.says);
}

pub returns : goal.returns
returns c =
    record {
      outcome =
          explains _ _ _ c.in_ok-explain_check.ensures.checked refl c.run_from_start.ensures.lent _
          c.explain_finished.ensures.outcome;
    }
