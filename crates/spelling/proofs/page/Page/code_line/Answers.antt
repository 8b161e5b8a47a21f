-- `Page::code_line`: the symbol, then the code, then the end. Assumes nothing.
use mathlib.Core.List.{append_assoc}
use Rattle.spelling.specs.Lines.{code_line_lem}
use Rattle.spelling.proofs.Placing.{then}
use Rattle.spelling.proofs.page.Page.code_line.Goals as goal

pub returns : goal.returns
unfolding code_line_lem
returns c = record {
  placed = simp append_assoc
      (then c.put_decimal.ensures.placed (then (rw c.from.ensures at c.put_spaced.ensures.placed) c.put.ensures.placed));
}
