-- The outcome of a call whose text passes 16 and 17. Assumes nothing.
use Rattle.std.specs.Prelude.{ℕ, cond, List, eqb, length}
use Rattle.abnf.specs.Text.{Line}
use Rattle.abnf_jobs.specs.Operation.{ReadOutcome, lines_check, lines_written, read_refused}

-- by what the text says: 18, 7 and 13, and what is written where none of them refuses
abbrev pub lines_outcome : List Line → List ℕ → List ℕ → ReadOutcome
lines_outcome lines map job =
    cond (eqb (lines_check lines (length job)).number 0) (lines_written lines map job)
    (read_refused (lines_check lines (length job)) map job)
