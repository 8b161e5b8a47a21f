use Rattle.grammar.proofs.Basics.{refl, ◌∙◌, ◌<◌, arith}
use Rattle.job.specs.Written.{written}
use Rattle.job.proofs.Filling.{written_more}
use Rattle.judging.proofs.codes.write_codes.Invariants.{code}
use Rattle.judging.proofs.codes.write_codes.Goals as goal

pub loop-x-init : goal.loop-x-init
unfolding written
loop-x-init c n p u named productive useful = refl

pub loop-x-preserved : goal.loop-x-preserved
loop-x-preserved c n p u named productive useful =
    let x = c.loop-x.x in
    let h : x < 64 = c.loop-x-test.true in
    rw c.from-in-loop-x.ensures
    (written_more (code n p u) x c.args.codes.now (omega arith) (c.loop-x.invariant n p u named productive useful)
    (c.from.ensures ∙ c.code_of-code.ensures.code
    ∙ rw (
      c.contains.ensures.says,
      c.contains-in-loop-x.ensures.says,
      c.contains-in-loop-x-2.ensures.says,
      named.at x h,
      productive.at x h,
      useful.at x h,
    )))
