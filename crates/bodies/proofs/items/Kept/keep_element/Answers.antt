-- `Kept::keep_element`: a literal's characters, or a name's number. Assumes nothing.
use Rattle.bodies.proofs.ElementItems.{literal_kept, name_kept}
use Rattle.bodies.proofs.items.Kept.keep_element.Goals as goal

pub returns-then-x : goal.returns-then-x
returns-then-x c =
    record {
      kept =
          rw (literal_kept c.args.named.now.names c.args.x.literal _ c.if-x.true)
          (rw c.text-text.ensures.text at c.keep_literal.ensures.kept);
    }

pub returns-else-x : goal.returns-else-x
returns-else-x c =
    let number = rw c.text-text.ensures.text at c.number.ensures.number in
    record { kept = rw (name_kept c.args.named.now.names c.args.x.literal _ c.if-x.false number) c.keep.ensures.kept }
