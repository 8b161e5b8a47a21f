-- `Page::refused_line`: the number, then the line of the place. Assumes nothing.
use mathlib.Core.List.{append_assoc}
use Rattle.spelling.specs.Lines.{refused_line_lem, number_line_lem}
use Rattle.spelling.proofs.Placing.{then}
use Rattle.spelling.proofs.page.Page.refused_line.Goals as goal

pub returns : goal.returns
unfolding refused_line_lem number_line_lem
returns c = record { placed = simp append_assoc (then c.put_number.ensures.placed c.number_line.ensures.placed) }
