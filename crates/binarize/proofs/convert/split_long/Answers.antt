use Rattle.grammar.proofs.Basics.{◌≡◌, ◌-◌, arith, length}
use Rattle.long_jobs.proofs.Buffer.{appended}
use Rattle.long_jobs.proofs.ConversionSteps.{splitting_all}
use Rattle.binarize.proofs.convert.split_long.Goals as goal

pub returns : goal.returns
returns c =
    record {
      reached =
          let end : length c.args.body.now - 2 ≡ c.loop-k.k = omega arith in
          rw end
          (splitting_all _ _ _ _ _ _ _ _ c.loop-k.invariant.0 _ (omega arith)
          (appended _ _ _ _ (rw end at c.put_record-2.ensures.put) c.loop-k.invariant.0.out_size (omega arith))
          c.requires.long.1);
    }
