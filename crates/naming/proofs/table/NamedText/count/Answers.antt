-- `NamedText::count`: as many names as entries. Assumes nothing.
use Rattle.grammar.proofs.Basics.{sym}
use Rattle.naming.proofs.Chains.{as_many}
use Rattle.naming.proofs.Viewed.{same_names}
use Rattle.naming.proofs.table.NamedText.count.Goals as goal

pub returns-clause-count : goal.returns-clause-count
returns-clause-count c = sym (as_many c.self.invariant (same_names c.self.view_is))
