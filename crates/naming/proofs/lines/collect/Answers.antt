use Rattle.naming.proofs.Collecting.{collected_start, collected_line, all_collected}
use Rattle.naming.proofs.lines.collect.Goals as goal

pub loop-at-init : goal.loop-at-init
loop-at-init c = search collected_start

pub loop-at-preserved : goal.loop-at-preserved
loop-at-preserved c =
    let e = c.edition-edition.ensures.edition in
    let t = c.text-text.ensures.text in
    collected_line c.args.named.now c.loop-at.named c.loop-at.at c.loop-at.invariant c.head_at-head.result _ _
    (rw (e, t) at c.head_at-head.ensures.read) (rw (e, t) at c.rule_end-at.ensures.ends) c.enter.ensures.entered

pub returns : goal.returns
returns c =
    record {
      names =
          all_collected c.args.named.now c.loop-at.named c.loop-at.at c.loop-at.invariant
          (rw c.text-text.ensures.text at c.loop-at-test.false);
    }
