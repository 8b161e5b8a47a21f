-- `NamedText::enter`: a name that is found stays. Assumes nothing.
use Rattle.grammar.proofs.Basics.{ap}
use Rattle.naming.proofs.Found.{stays_entered}
use Rattle.naming.proofs.Viewed.{same_text}
use Rattle.naming.proofs.table.NamedText.enter.Goals as goal

pub returns-else-is_none : goal.returns-else-is_none
returns-else-is_none c =
    let text = same_text c.self.view_is in
    record {
      entered =
          ap (λ ns. record c.args.self.now { names = ns })
          (stays_entered c.args.self.now.names _ c.find.result (rw text at c.find.ensures.found) c.is_none.result
          c.is_none.ensures c.if-is_none.false);
    }
