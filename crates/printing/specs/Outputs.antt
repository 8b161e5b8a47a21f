-- The whole output that each program prints, for every input. Assumes nothing.
use Rattle.std.specs.Prelude.{ℕ, ◌/◌, min, Bool, cond, List, ◌++◌, eqb, length, get_or}
use Rattle.spelling.specs.Words.{ascii}
use Rattle.spelling.specs.Lines.{refused_line_lem, number_line_lem, answer_line_lem, code_line_lem, lines}
use Rattle.spelling.specs.Records.{record_line_lem}
use Rattle.printing.specs.declared.Report.{Report}

-- The report program: six lines in this order, or the line of the refusal
unfoldable pub report_output_lem : Report → List ℕ
report_output_lem r =
    cond
    (eqb r.number 0)
    (number_line_lem (ascii "states") r.states
    ++ number_line_lem (ascii "examined") r.examined
    ++ number_line_lem (ascii "joins") r.joins
    ++ answer_line_lem (ascii "start") r.start
    ++ answer_line_lem (ascii "empty") r.empty
    ++ answer_line_lem (ascii "growing") r.growing)
    (refused_line_lem r.number r.place)

-- Verdicts: a line for each symbol 0 to 63 that has a code, or the line of the refusal
unfoldable pub codes_output_lem : ℕ → ℕ → List ℕ → List ℕ
codes_output_lem number place codes =
    cond
    (eqb number 0)
    (lines (λ X. code_line_lem X (get_or codes X 0)) (min 64 (length codes)))
    (refused_line_lem number place)

-- Table and machine: a transition is one of 32 × 64 × 32, and a listing has none twice
abbrev pub most_records : ℕ
most_records = 65536

-- Forms and listings: the records that are shown are those that are said to be there and that the listing holds whole
unfoldable pub shown_records_lem : ℕ → List ℕ → ℕ
shown_records_lem records listing = min (min records most_records) (length listing / 8)

-- Forms and listings: 'accepted yes' or 'accepted no', 'records N', and a line a record; or the line of the refusal
unfoldable pub explain_output_lem : ℕ → ℕ → Bool → ℕ → List ℕ → List ℕ
explain_output_lem number place accepted records listing =
    cond
    (eqb number 0)
    (answer_line_lem (ascii "accepted") accepted
    ++ number_line_lem (ascii "records") records
    ++ lines (record_line_lem listing) (shown_records_lem records listing))
    (refused_line_lem number place)
