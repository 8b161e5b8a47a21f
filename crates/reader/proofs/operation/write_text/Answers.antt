-- `operation::write_text`: the terminals and the keys are those of the text, so that 7 and 13 go by its rules, and
-- what is written is its map and its records. Assumes nothing.
use Rattle.grammar.proofs.Basics.{refl}
use Rattle.std.proofs.lemmas.Result.{err_from_is_err_and}
use Rattle.job.proofs.Refusals.{not_zero}
use Rattle.reader.proofs.CharacterMarks.{numbered_alike}
use Rattle.reader.proofs.Outcomes.{marks_few}
use Rattle.reader.proofs.PuttingText.{text_numbered}
use Rattle.reader.proofs.WrittenText.{rules_refused, part_fits, all_written}
use Rattle.reader.proofs.operation.write_text.Goals as goal

pub numbers-requires : goal.numbers-requires
numbers-requires c = record { few = marks_few c.requires.fits c.requires.used }

pub put_rules-rules-requires-clause-numbered : goal.put_rules-rules-requires-clause-numbered
put_rules-rules-requires-clause-numbered c = numbered_alike c.requires.used c.numbers.ensures.numbered

pub returns-in_err-keys : goal.returns-in_err-keys
returns-in_err-keys c =
    record {
      left =
          let p = err_from_is_err_and c.from_residual.result c.from_residual.ensures.1 in
          rw (p.1, p.2)
          (rules_refused _ c.put_rules-rules.ensures.rules (text_numbered c.requires.ready c.requires.fits) _ _ _
          c.in_err-keys.ensures.checked (not_zero c.in_err-keys.field-0.0.cause));
    }

pub write_map-requires-clause-few : goal.write_map-requires-clause-few
write_map-requires-clause-few c = marks_few c.requires.fits c.requires.used

pub write_grammar-requires : goal.write_grammar-requires
write_grammar-requires c =
    record {
      room =
          part_fits _ c.put_rules-rules.ensures.rules (text_numbered c.requires.ready c.requires.fits) c.args.map.now
          c.args.job.now _ c.in_ok-keys.ensures.checked refl c.in_ok-keys.ensures.keys;
    }

pub returns : goal.returns
returns c =
    record {
      left =
          all_written _ c.put_rules-rules.ensures.rules (text_numbered c.requires.ready c.requires.fits) c.args.map.now
          c.args.job.now _ c.in_ok-keys.ensures.checked refl c.in_ok-keys.ensures.keys c.requires.used
          c.count.ensures.count c.write_map.ensures.mapped c.write_grammar.ensures.written;
    }
