use Rattle.grammar.proofs.Basics.{refl}
use Rattle.job.proofs.Refusals.{not_zero}
use Rattle.long_jobs.specs.Check.{long_place}
use Rattle.long_jobs.proofs.FirstWalkSteps.{one_more}
use Rattle.long_jobs.proofs.FirstWalkSteps.{refused_here, passed_here}
use Rattle.long_records.proofs.check.check_records.Goals as goal

pub returns-in-Err : goal.returns-in-Err
unfolding long_place
returns-in-Err c =
    record {
      checked =
          refused_here _ _ c.loop-i-test.true _ c.loop-i.invariant.0 _ refl
          c.loop-i.invariant.1 _ c.in-Err.ensures.fault _ (not_zero c.in-Err.cause) refl;
    }

pub loop-i-preserved : goal.loop-i-preserved
loop-i-preserved c = (
  search one_more,
  passed_here _ _ c.loop-i-test.true _ c.loop-i.invariant.0 _ refl c.loop-i.invariant.1 _
      c.in_default.ensures.fault refl,
)
