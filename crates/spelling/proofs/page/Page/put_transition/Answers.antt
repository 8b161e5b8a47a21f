-- `Page::put_transition`: the state, then the symbol and the other state. Assumes nothing.
use mathlib.Core.List.{append_assoc}
use Rattle.spelling.specs.Records.{transition_output}
use Rattle.spelling.proofs.Placing.{then}
use Rattle.spelling.proofs.page.Page.put_transition.Goals as goal

pub returns : goal.returns
unfolding transition_output
returns c = record {
  placed = simp append_assoc
      (then (rw c.from.ensures at c.put_decimal.ensures.placed)
      (then (rw c.from-2.ensures at c.put_spaced.ensures.placed) (rw c.from-3.ensures at c.put_spaced-2.ensures.placed)));
}
