-- `reporting::operation::report`: a refusal leaves what is lent, and else the run from the start, the acceptance on its
-- bits and the verdicts give what the four operations give one after the other. Assumes nothing.
use Rattle.grammar.proofs.Basics.{refl, ◌∙◌, arith}
use Rattle.grammar.proofs.Basics.{◌≡◌, false}
use Rattle.std.specs.Prelude.{Result, Ok, Err}
use Rattle.std.specs.Result.{result_unwrap_or}
use Rattle.job.specs.declared.Refusal.{Refusal}
use Rattle.verdicts.specs.declared.Judged.{Judged}
use Rattle.verdicts.specs.Answers.{verdicts_answer}
use Rattle.job.proofs.Refusals.{not_zero}
use Rattle.reports.proofs.Outcome.{report_refused, report_given}
use Rattle.reports.proofs.Through.{checks_passed, start_fits, start_accepted, report_ran}
use Rattle.reporting.proofs.operation.report.Goals as goal

pub returns-in-Err : goal.returns-in-Err
returns-in-Err c =
    record {
      outcome =
          report_refused _ _ _ _ c.in-Err.ensures.checked (not_zero c.in-Err.refusal.cause) c.refused.ensures.answer;
    }

pub run_from_start-run-requires : goal.run_from_start-run-requires
run_from_start-run-requires c =
    let p = checks_passed c.in_default.ensures.checked refl in
    record {
      long = (omega arith, p.long, p.long_reasons);
      accepted = p.ok;
    }

pub is_accepted-start-requires : goal.is_accepted-start-requires
is_accepted-start-requires c =
    record {
      able =
          let p = checks_passed c.in_default.ensures.checked refl in
          (omega arith, start_fits p.ok c.field_of.ensures.field, p.ok);
    }

-- the two verdicts, no where they are refused
abbrev none : Judged
none = record { empty = false; growing = false }

judged_is : (judged : Result Judged Refusal) (v : Judged) → v ≡ result_unwrap_or judged none
    → (v.empty ≡ (verdicts_answer judged).empty) × (v.growing ≡ (verdicts_answer judged).growing)
judged_is (Ok j) v e = rw e (refl, refl)
judged_is (Err r) v e = rw e (refl, refl)

pub returns : goal.returns
returns c =
    record {
      outcome =
          let p = checks_passed c.in_default.ensures.checked refl in
          let ran = c.run_from_start-run.ensures in
          let judged = judged_is c.verdicts.result c.unwrap_or-judged.result c.unwrap_or-judged.ensures in
          let given =
          report_ran p ran.states ran.lent ran.made ran.met
          (start_accepted p.ok c.field_of.ensures.field _ _ ran.alike.says c.is_accepted-start.ensures.accepted)
          c.verdicts.ensures.left in
          rw (judged.0, judged.1) given ∙ report_given _ _ _ _ c.in_default.ensures.checked refl;
    }
