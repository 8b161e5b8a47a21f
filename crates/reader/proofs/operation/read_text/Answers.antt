-- `operation::read_text`: 10, 2 and 16 first; past them the text is one of the part. Assumes nothing.
use Rattle.grammar.proofs.Basics.{refl}
use Rattle.std.proofs.lemmas.Result.{err_from_is_err_and}
use Rattle.job.proofs.Refusals.{not_zero}
use Rattle.reader.proofs.Outcomes.{text_refused, text_passed}
use Rattle.reader.proofs.operation.read_text.Goals as goal

pub returns-in_err-text_check : goal.returns-in_err-text_check
returns-in_err-text_check c =
    record {
      left =
          let p = err_from_is_err_and c.from_residual.result c.from_residual.ensures.1 in
          rw (p.1, p.2)
          (text_refused _ _ _ _ _ c.in_err-text_check.ensures.checked (not_zero c.in_err-text_check.field-0.0.cause));
    }

pub read_names-requires : goal.read_names-requires
read_names-requires c =
    let passed = text_passed _ _ _ c.args.job.now _ c.in_ok-text_check.ensures.checked refl in
    record { short = passed.0; fine = passed.1; room = passed.2 }
