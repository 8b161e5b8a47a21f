use Rattle.grammar.proofs.Basics.{arith}
use Rattle.job.proofs.Records.{records_counted}
use Rattle.forms.proofs.FinalWord.{final_none, final_more, final_all}
use Rattle.asking.proofs.acceptance.final_word.Goals as goal

pub loop-i-init : goal.loop-i-init
loop-i-init c = final_none _

pub loop-i-preserved : goal.loop-i-preserved
loop-i-preserved c =
    let l = c.loop-i in
    final_more _ l.word _ l.i (omega (arith, records_counted c.args.job.now)) l.invariant c.record_at.ensures.record
    c.with_final-word.ensures.states

pub returns : goal.returns
returns c =
    record {
      word = final_all _ c.loop-i.word c.loop-i.i (omega (arith, records_counted c.args.job.now)) c.loop-i.invariant;
    }
