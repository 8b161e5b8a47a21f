-- `NamedText::number`: where a name is not found, how many there are. Assumes nothing.
use Rattle.grammar.proofs.Basics.{sym, ◌∙◌, arith}
use Rattle.naming.proofs.Chains.{as_many}
use Rattle.naming.proofs.Found.{number_found, number_within}
use Rattle.naming.proofs.Viewed.{same_names}
use Rattle.naming.proofs.table.NamedText.number.Goals as goal

pub returns-clause-number : goal.returns-clause-number
returns-clause-number c =
    let many = as_many c.self.invariant (same_names c.self.view_is) in
    c.unwrap_or.ensures ∙ number_found _ _ c.find.result _ (sym many) c.find.ensures.found

pub returns-clause-few : goal.returns-clause-few
returns-clause-few c =
    let many = as_many c.self.invariant (same_names c.self.view_is) in
    let number = c.unwrap_or.ensures ∙ number_found _ _ c.find.result _ (sym many) c.find.ensures.found in
    omega (arith, number, many, number_within c.args.self.now.names c.args.name.now, c.self.invariant.few)
