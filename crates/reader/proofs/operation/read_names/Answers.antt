-- `operation::read_names`: 17, and 18 by the names of the text; past them the lines decide. Assumes nothing.
use Rattle.grammar.proofs.Basics.{refl}
use Rattle.std.proofs.lemmas.Result.{err_from_is_err_and}
use Rattle.job.proofs.Refusals.{not_zero}
use Rattle.reader.proofs.Outcomes.{names_refused, names_passed, by_lines}
use Rattle.reader.proofs.operation.read_names.Goals as goal

pub returns-in_err-names_check : goal.returns-in_err-names_check
returns-in_err-names_check c =
    let pre = c.requires in
    let names = rw c.new-named.ensures.none at c.collect.ensures.names in
    record {
      left =
          let p = err_from_is_err_and c.from_residual.result c.from_residual.ensures.1 in
          rw (p.1, p.2)
          (names_refused _ _ _ _ pre.short pre.fine pre.room _ refl _
          (rw names at c.in_err-names_check.ensures.checked) (not_zero c.in_err-names_check.field-0.0.cause));
    }

pub returns : goal.returns
returns c =
    let pre = c.requires in
    let names = rw c.new-named.ensures.none at c.collect.ensures.names in
    let passed =
    names_passed _ _ c.args.map.now c.args.job.now pre.short pre.fine pre.room _ refl _
    (rw names at c.in_ok-names_check.ensures.checked) refl in
    record {
      left =
          by_lines _ _ c.args.map.now c.args.job.now pre.short pre.fine pre.room passed.0
          (rw names at c.read_bodies.ensures.left);
    }
