-- `operation::read_bodies`: 18 goes by what the bodies need; past it what they need is there. Assumes nothing.
use Rattle.grammar.proofs.Basics.{refl}
use Rattle.std.proofs.lemmas.Result.{err_from_is_err_and}
use Rattle.job.proofs.Refusals.{not_zero}
use Rattle.reader.proofs.Outcomes.{needs_refused, needs_fit, needs_marked}
use Rattle.reader.proofs.operation.read_bodies.Goals as goal

pub returns-in_err-numbers_check : goal.returns-in_err-numbers_check
returns-in_err-numbers_check c =
    record {
      left =
          let p = err_from_is_err_and c.from_residual.result c.from_residual.ensures.1 in
          rw (p.1, p.2)
          (needs_refused _ _ _ c.count_bodies-variables.ensures.needs c.count.ensures.count _
          c.in_err-numbers_check.ensures.checked (not_zero c.in_err-numbers_check.field-0.0.cause));
    }

pub write_text-requires-clause-fits : goal.write_text-requires-clause-fits
write_text-requires-clause-fits c =
    needs_fit _ c.args.map.now c.args.job.now c.count_bodies-variables.ensures.needs c.count.ensures.count _
    c.in_ok-numbers_check.ensures.checked refl

pub write_text-requires-clause-used : goal.write_text-requires-clause-used
write_text-requires-clause-used c =
    needs_marked _ c.args.map.now c.args.job.now c.count_bodies-variables.ensures.needs c.count.ensures.count _
    c.in_ok-numbers_check.ensures.checked refl
