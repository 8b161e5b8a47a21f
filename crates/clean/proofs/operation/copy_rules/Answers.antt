-- `operation::copy_rules`: the set is of the useful symbols, so that the rules kept and the numbers are those of the
-- clean copy, and the check of room is by its length. Assumes nothing.
use Rattle.grammar.proofs.Basics.{◌≡◌, refl, ◌∙◌, ap, ◌+◌, arith, length, length-map}
use Rattle.std.proofs.lemmas.Result.{err_from_is_err_and}
use Rattle.job.proofs.Refusals.{not_zero}
use Rattle.job.specs.Check.{room_check}
use Rattle.job.specs.Inside.Keys.{rules_of_keys}
use Rattle.job.proofs.JobChecks.{room_fits}
use Rattle.usefulness.proofs.Bodies.{keys_below}
use Rattle.copies.specs.Inside.Parts.{renumbered_key}
use Rattle.copies.proofs.CopyRecords.{room_refused, all_copied}
use Rattle.clean.proofs.operation.copy_rules.Goals as goal

pub returns-in_err-room_check : goal.returns-in_err-room_check
returns-in_err-room_check c =
    record {
      left =
          let are = c.as_slice-rules.ensures in
          let k = c.keep_rules-kept.ensures in
          let p = err_from_is_err_and c.from_residual.result c.from_residual.ensures.1 in
          rw (p.1, p.2)
          (room_refused _ _ (rw are k.kept)
          (ap rules_of_keys are ∙ k.rules _ c.useful_symbols-useful.ensures.flags) c.args.out.now _
          c.in_err-room_check.ensures.checked (not_zero c.in_err-room_check.field-0.0.cause));
    }

pub write_grammar-requires : goal.write_grammar-requires
write_grammar-requires c =
    record {
      room =
          let kept = c.as_slice-rules.result.now in
          let out = c.args.out.now in
          let passed : (room_check (length kept + 1) (length out)).number ≡ 0
          =
          rw (← c.in_ok-room_check.ensures.checked) refl in
          omega (
            arith,
            ap length (c.as_slice.ensures ∙ c.renumber_keys-renumbered.ensures.keys),
            length-map kept (renumbered_key c.number_symbols-numbers.result),
            room_fits (length kept + 1) (length out) passed,
          );
    }

pub returns : goal.returns
returns c =
    record {
      left =
          let are = c.as_slice-rules.ensures in
          let k = c.keep_rules-kept.ensures in
          let held = c.useful_symbols-useful.ensures.flags in
          let out = c.args.out.now in
          let passed : (room_check (length c.as_slice-rules.result.now + 1) (length out)).number ≡ 0
          =
          rw (← c.in_ok-room_check.ensures.checked) refl in
          all_copied _ _ (rw are k.kept) (ap rules_of_keys are ∙ k.rules _ held) out (keys_below c.requires.rules)
          c.requires.start _ _ held c.number_symbols-numbers.ensures.numbers _ _ passed
          (c.as_slice.ensures ∙ c.renumber_keys-renumbered.ensures.keys)
          (rw c.from.ensures at c.write_grammar.ensures.written);
    }
