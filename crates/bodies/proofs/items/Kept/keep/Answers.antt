-- `Kept::keep`: one more where there is room. Assumes nothing.
use Rattle.grammar.proofs.Basics.{◌≡◌, length, rules}
use Rattle.bodies.proofs.Keeping.{one_kept, none_kept}
use Rattle.bodies.proofs.items.Kept.keep.Goals as goal

pub returns-then-self-lt-ITEMS : goal.returns-then-self-lt-ITEMS
returns-then-self-lt-ITEMS c =
    let size : length c.self.inside.items ≡ 35 = search rules in
    record {
      kept =
          rw (← c.self.view_is)
          (one_kept c.self.inside.items c.self.inside.count c.args.item size c.self.invariant c.if-self-lt-ITEMS.true);
    }

pub returns-else-self-lt-ITEMS : goal.returns-else-self-lt-ITEMS
returns-else-self-lt-ITEMS c =
    let size : length c.self.inside.items ≡ 35 = search rules in
    record {
      kept =
          rw (← c.self.view_is)
          (none_kept c.self.inside.items c.self.inside.count c.args.item size c.self.invariant c.if-self-lt-ITEMS.false);
    }
