use Rattle.bodies.proofs.LiteralItems.{spelling_begins, spelling_ends, spelling_on, fewer_left}
use Rattle.bodies.proofs.items.Kept.keep_literal.Goals as goal

pub loop-taken-init : goal.loop-taken-init
loop-taken-init c = search spelling_begins

pub loop-taken-smaller : goal.loop-taken-smaller
loop-taken-smaller c = fewer_left c.args.text.now c.loop-taken.left c.in-Some.taken.rest _ c.in-Some.ensures.taken

pub loop-taken-preserved : goal.loop-taken-preserved
loop-taken-preserved c =
    spelling_on c.args.text.now c.loop-taken.left c.in-Some.taken.rest _ c.in-Some.ensures.taken c.loop-taken.invariant c.in-Some.ensures.ready c.character_item.ensures.item c.keep.ensures.kept

pub returns : goal.returns
returns c = record { kept = spelling_ends _ c.args.self.now c.args.at c.args.end c.loop-taken.invariant c.in_default.ensures.taken }
