-- `Report::put`: the line of a refusal, or the six lines one after the other. Assumes nothing.
use borrow.Author.Tests.{eq-eqb, ne_eqb}
use Rattle.printing.specs.Outputs.{report_output_lem}
use Rattle.spelling.proofs.Placing.{then, exact}
use Rattle.printing.proofs.outputs.ReportOutput.put.Goals as goal

pub returns-then-self-ne0 : goal.returns-then-self-ne0
unfolding report_output_lem
returns-then-self-ne0 c =
    record { placed = rw (ne_eqb _ 0 c.if-self-ne0.true) (exact c.refused_line.ensures.placed) }

pub returns : goal.returns
unfolding report_output_lem
returns c = record {
  placed = rw (eq-eqb _ 0 c.if-self-ne0.false)
      (exact
      (then
      (then (then (then (then c.number_line.ensures.placed c.number_line-2.ensures.placed) c.number_line-3.ensures.placed)
      c.answer_line.ensures.placed)
      c.answer_line-2.ensures.placed)
      c.answer_line-3.ensures.placed));
}
