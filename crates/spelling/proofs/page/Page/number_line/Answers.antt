-- `Page::number_line`: word and number, then the end. Assumes nothing.
use native.Mathlib.Omega.{arith}
use Rattle.spelling.specs.Lines.{number_line_lem}
use Rattle.spelling.proofs.Placing.{then, within}
use Rattle.spelling.proofs.page.Page.number_line.Goals as goal

pub returns : goal.returns
unfolding number_line_lem
returns c = record { placed = within (then c.put_number.ensures.placed c.put.ensures.placed) (omega arith) }
