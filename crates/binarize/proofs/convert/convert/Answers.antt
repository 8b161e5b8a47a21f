-- `convert::convert`: the body of an L record is split, or is written as its rule where it has none or one; any other
-- record is written as it is. Assumes nothing.
use Rattle.grammar.proofs.Basics.{refl, sym, arith}
use Rattle.long_jobs.proofs.Buffer.{appended}
use Rattle.long_jobs.proofs.ConversionSteps.{short_written, converted_long, converted_short}
use Rattle.binarize.proofs.convert.convert.Goals.{then-is_long+else-body-ge2, else-is_long}
use Rattle.binarize.proofs.convert.convert.Goals as goal

pub returns : goal.returns
returns c =
    elim c.if-is_long.branch [
      | then-is_long+else-body-ge2 w ↦
          record {
            reached =
                converted_long _ _ _ c.args.free.now c.args.bytes.now _ _ _ (sym w.if-is_long.ensures.says)
                w.body-body.ensures.body refl
                (short_written _ _ _ c.args.free.now w.body-body.result.now _ w.if-body-ge2.false
                (appended _ _ _ _ (rw (w.r-is, w.short_rule-r.ensures.rule) at c.put_record.ensures.put)
                c.requires.room.out_size (omega arith)));
          }
      | else-is_long w ↦
          record {
            reached =
                converted_short _ _ _ c.args.free.now c.args.bytes.now (sym w.if-is_long.ensures.says)
                (appended _ _ _ _ (rw (w.r-is, w.short_record-r.ensures.record) at c.put_record.ensures.put)
                c.requires.room.out_size (omega arith));
          }
    ]
