-- `Codes::put`: the line of a refusal, or the lines of the codes. Assumes nothing.
use borrow.Author.Tests.{eq-eqb, ne_eqb}
use Rattle.printing.specs.Outputs.{codes_output_lem}
use Rattle.spelling.proofs.Placing.{exact}
use Rattle.printing.proofs.outputs.CodesOutput.put.Goals as goal

pub returns-then-self-ne0 : goal.returns-then-self-ne0
unfolding codes_output_lem
returns-then-self-ne0 c =
    record { placed = rw (ne_eqb _ 0 c.if-self-ne0.true) (exact c.refused_line.ensures.placed) }

pub returns : goal.returns
unfolding codes_output_lem
returns c = record { placed = rw (eq-eqb _ 0 c.if-self-ne0.false) (exact c.code_lines.ensures.placed) }
