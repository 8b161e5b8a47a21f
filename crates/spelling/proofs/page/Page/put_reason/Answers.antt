-- `Page::put_reason`: a given transition has its word, another its symbol and the rule's body. Assumes nothing.
use mathlib.Core.List.{append_assoc}
use native.Mathlib.Omega.{arith}
use borrow.Author.Tests.{eq-eqb, ne_eqb}
use Rattle.spelling.specs.Records.{reason_output}
use Rattle.spelling.proofs.Placing.{then, within}
use Rattle.spelling.proofs.page.Page.put_reason.Goals as goal

pub returns-then-bytes-eq71 : goal.returns-then-bytes-eq71
unfolding reason_output
returns-then-bytes-eq71 c =
    record { placed = rw (eq-eqb _ 71 c.if-bytes-eq71.true) (within c.put_word.ensures.placed (omega arith)) }

pub returns : goal.returns
unfolding reason_output
returns c = record {
  placed = rw (ne_eqb _ 71 c.if-bytes-eq71.false)
      (simp append_assoc (then (rw c.from.ensures at c.put_number.ensures.placed) c.put_body.ensures.placed));
}
