use Rattle.bodies.proofs.BodyReading.{another_element, another_line}
use Rattle.bodies.proofs.items.read_body.Goals as goal

pub loop-preserved : goal.loop-preserved
loop-preserved c =
    another_element _ _ _ _ c.loop.invariant _
    (rw (c.edition.ensures.edition, c.text.ensures.text) at c.element_at-x.ensures.read)
    c.keep_element.ensures.kept c.in-ElementAfter.is

pub returns-in-RuleAfter : goal.returns-in-RuleAfter
returns-in-RuleAfter c =
    record {
      read =
          another_line _ _ _ _ c.loop.invariant _
          (rw (c.edition.ensures.edition, c.text.ensures.text) at c.element_at-x.ensures.read)
          c.keep_element.ensures.kept c.in-RuleAfter.is;
    }
