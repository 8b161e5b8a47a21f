-- `NamedText::find`. The invariant: every entry of the name lies below k, and entry k - 1 has the name's hash.
-- Assumes nothing.
use Rattle.naming.proofs.Chains.{Looking}
use Rattle.naming.proofs.table.NamedText.find.Given as goal

abbrev pub invariant-loop-i : goal.invariant-loop-i
invariant-loop-i l = Looking l.self-inside.text.now l.self-inside.entries l.self-inside.count l.name l.k

abbrev pub decreases-loop-i : goal.decreases-loop-i
decreases-loop-i l = l.k
