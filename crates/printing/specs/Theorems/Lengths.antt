-- How long the outputs can be. Assumes nothing.
use Rattle.std.specs.Prelude.{Bool, ℕ, ◌+◌, ◌*◌, ◌<◌, ◌≤◌, List, length, get_or}
use Rattle.printing.specs.declared.Report.{Report}
use Rattle.printing.specs.Outputs.{report_output_lem, codes_output_lem, most_records, explain_output_lem}

-- a list of bytes
abbrev pub Bytes : List ℕ → Type 0
Bytes l = (i : ℕ) → get_or l i 0 < 256

-- The report program: no output is longer than this, so a buffer of as many bytes is never too short
pub record OutputsFit : Type 0 where
  pub report : (r : Report) → length (report_output_lem r) ≤ 117
  pub codes : (number place : ℕ) (codes : List ℕ) → Bytes codes → length (codes_output_lem number place codes) ≤ 448
  pub explain :
      (number place : ℕ) (accepted : Bool) (records : ℕ) (listing : List ℕ)
      → Bytes listing
      → length (explain_output_lem number place accepted records listing) ≤ 42 + 37 * most_records
