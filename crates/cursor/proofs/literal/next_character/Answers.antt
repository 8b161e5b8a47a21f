-- `literal::next_character`: the first number of a value, or the first byte of a string. Assumes nothing.
use Rattle.cursor.proofs.LiteralLaws.{string_next, value_next}
use Rattle.cursor.proofs.literal.next_character.Goals as goal

pub returns-then-left-clause-ready : goal.returns-then-left-clause-ready
returns-then-left-clause-ready c =
    let f = c.first_value-first in
    (value_next c.args.text.now c.args.left c.requires.ready c.in_ok-at.at c.in_ok-at.was f.result.value f.result.next
    c.if-left.true f.ensures.values f.ensures.within.0).1

pub returns-else-left-clause-taken : goal.returns-else-left-clause-taken
returns-else-left-clause-taken c =
    (string_next c.args.text.now c.args.left c.requires.ready c.in_ok-at.at c.in_ok-at.was c.if-left.false
    c.quoted.result c.quoted.ensures.characters).0
