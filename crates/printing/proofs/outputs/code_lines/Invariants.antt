-- `outputs::code_lines`. The loop's invariant: the lines of the first x codes are written. Assumes nothing.
use Rattle.std.proofs.Common.{◌*◌, get_or}
use Rattle.spelling.specs.Lines.{code_line_lem, lines}
use Rattle.spelling.specs.Inside.Placed.{Placed}
use Rattle.printing.proofs.outputs.code_lines.Given as goal

abbrev pub invariant-loop-x : goal.invariant-loop-x
invariant-loop-x l = Placed (lines (λ X. code_line_lem X (get_or l.fn.codes X 0)) l.x) (42 * l.x) l.initial.page l.page
