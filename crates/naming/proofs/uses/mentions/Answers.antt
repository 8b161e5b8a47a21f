use Rattle.naming.proofs.Mentioning.{looks_on, name_missing, none_missing}
use Rattle.naming.proofs.uses.mentions.Goals as goal

pub returns-then-unknown : goal.returns-then-unknown
returns-then-unknown c =
    let read = rw (c.edition.ensures.edition, c.text.ensures.text) at c.element_at-x.ensures.read in
    record {
      looked = name_missing _ _ _ _ _ c.loop-x.invariant _ read c.unknown.result c.unknown.ensures.says c.if-unknown.true;
    }

pub returns-then-ends_rule : goal.returns-then-ends_rule
returns-then-ends_rule c =
    let read = rw (c.edition.ensures.edition, c.text.ensures.text) at c.element_at-x.ensures.read in
    record {
      looked =
          none_missing _ _ _ _ _ c.loop-x.invariant _ read c.unknown.result c.unknown.ensures.says
          c.ends_rule.result c.ends_rule.ensures.says c.if-unknown.false c.if-ends_rule.true;
    }

pub loop-x-preserved : goal.loop-x-preserved
loop-x-preserved c =
    let read = rw (c.edition.ensures.edition, c.text.ensures.text) at c.element_at-x.ensures.read in
    looks_on _ _ _ _ _ c.loop-x.invariant _ read c.unknown.result c.unknown.ensures.says
    c.ends_rule.result c.ends_rule.ensures.says c.if-unknown.false c.if-ends_rule.false
