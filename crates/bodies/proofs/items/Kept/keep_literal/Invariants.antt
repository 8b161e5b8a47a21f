-- `Kept::keep_literal`. The invariant: what is kept comes, with the characters that are left, to what is kept in the
-- end. Assumes nothing.
use Rattle.grammar.proofs.Basics.{length}
use Rattle.cursor.specs.Cursor.{characters_left}
use Rattle.bodies.proofs.LiteralItems.{Spelling, literal_goal}
use Rattle.bodies.proofs.items.Kept.keep_literal.Given as goal

abbrev pub invariant-loop-taken : goal.invariant-loop-taken
invariant-loop-taken l = Spelling (literal_goal l.text l.initial.self l.at l.end) l.text l.left l.self

abbrev pub decreases-loop-taken : goal.decreases-loop-taken
decreases-loop-taken l = length (characters_left l.text l.left)
