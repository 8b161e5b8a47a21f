-- `theorems::as_printed`: the definitions compute to what is read. Assumes nothing.
use mathlib.Core.Path.{refl}
use Rattle.spelling.specs.Words.{digits, decimal}
use Rattle.spelling.specs.Lines.{refused_line_lem, number_line_lem, answer_line_lem, code_line_lem, lines}
use Rattle.spelling.specs.Records.{transition_output, second_output, body_output, reason_output, record_line_lem}
use Rattle.printing.specs.Outputs.{report_output_lem, codes_output_lem, shown_records_lem, explain_output_lem}
use Rattle.printing.specs.Theorems.Printed.{AsPrinted}
use Rattle.printing.proofs.theorems.as_printed.Statement.{statement}
use Rattle.printing.proofs.theorems.as_printed.Tie as tie

printed : AsPrinted
unfolding digits decimal refused_line_lem number_line_lem answer_line_lem code_line_lem lines transition_output second_output body_output reason_output
    record_line_lem report_output_lem codes_output_lem shown_records_lem explain_output_lem
printed =
    record { largest = refl; reported = refl; refused = refl; coded = refl; explained = refl; not_accepted = refl }

pub as_printed_spec : {M : Type 1} → statement M
as_printed_spec = tie.close (tie.spec (λ c. printed))
