-- `NamedText::new`: its table is empty. Assumes nothing.
use Rattle.grammar.proofs.Basics.{refl}
use Rattle.naming.specs.Table.{names_in}
use Rattle.naming.proofs.EmptyTable.{empty_table}
use Rattle.naming.proofs.table.NamedText.new.Goals as goal

pub invariant_of-result : goal.invariant_of-result
invariant_of-result c = empty_table c.args.text.now _

pub returns : goal.returns
unfolding names_in
returns c = record { none = refl }
