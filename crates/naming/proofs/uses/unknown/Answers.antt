-- `uses::unknown`: a name is unknown just if it is not found. Assumes nothing.
use Rattle.naming.proofs.Found.{unknown_is}
use Rattle.naming.proofs.uses.unknown.Goals as goal

pub returns-then-not-x : goal.returns-then-not-x
returns-then-not-x c =
    record {
      says =
          rw c.if-not-x.true
          (unknown_is c.args.named.now.names _ c.find.result (rw c.text.ensures.text at c.find.ensures.found)
          c.is_none.result c.is_none.ensures);
    }
