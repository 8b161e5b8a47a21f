-- How long an output can be: as its lines together. Assumes nothing.
use Prim.Native.Nat.{◌+◌, ◌*◌, ◌/◌, min}
use native.Mathlib.Omega.{arith}
use lib.Dec.{eqb}
use lib.ListN.{length, get_or, length-append}
use Rattle.spelling.specs.Words.{ascii}
use Rattle.spelling.specs.Lines.{code_line_lem}
use Rattle.spelling.specs.Records.{record_line_lem}
use Rattle.spelling.proofs.LineLengths.{either, all, refused_short, number_short, answer_short, code_short}
use Rattle.spelling.proofs.LineLengths.{record_short}
use Rattle.printing.specs.Outputs.{report_output_lem, codes_output_lem, most_records, shown_records_lem, explain_output_lem}
use Rattle.printing.specs.Theorems.Lengths.{OutputsFit}

pub outputs_fit_lem : OutputsFit
unfolding report_output_lem codes_output_lem explain_output_lem shown_records_lem
outputs_fit_lem =
    record {
      report = λ r. either (eqb r.number 0) _ _ 117
          (simp length-append
          (omega (
            arith,
            number_short (ascii "states") r.states,
            number_short (ascii "examined") r.examined,
            number_short (ascii "joins") r.joins,
            answer_short (ascii "start") r.start,
            answer_short (ascii "empty") r.empty,
            answer_short (ascii "growing") r.growing,
          )))
          (omega (arith, refused_short r.number r.place));
      codes = λ number place codes b. either (eqb number 0) _ _ 448
          (omega (
            arith,
            all (λ X. code_line_lem X (get_or codes X 0)) 7 (min 64 (length codes))
                (λ X l. code_short X (get_or codes X 0) (omega arith) (b X)),
          ))
          (omega (arith, refused_short number place));
      explain = λ number place accepted records listing b. either (eqb number 0) _ _ (42 + 37 * most_records)
          (simp length-append
          (omega (
            arith,
            answer_short (ascii "accepted") accepted,
            number_short (ascii "records") records,
            all (record_line_lem listing) 37 (min (min records most_records) (length listing / 8))
                (λ k l. record_short listing k b),
          )))
          (omega (arith, refused_short number place));
    }
