-- A list of calls and what it gives: the operations' own outcomes, one after the other on one table, of bytes or of
-- bits, and one set of reasons. Assumes nothing.
use Rattle.std.specs.Prelude.{ℕ, List, [], ◌∷◌}
use Rattle.job.specs.Check.{Checks, job_check}
use Rattle.machine.specs.Answers.{Started}
use Rattle.machine.specs.Answers.{Advanced}
use Rattle.machine.specs.Table.{Lent, Statuses, statuses, table_size}
use Rattle.machine.specs.Operations.{StartOutcome, start_by, AdvanceOutcome, advance_by}
use Rattle.bit_machine.specs.Answers.{Counted}
use Rattle.bit_machine.specs.BitTable.{bits_size, bit_statuses}
use Rattle.bit_machine.specs.Operations.{start_bits_by, advance_bits_by, done_count_of}
use Rattle.forms.specs.Answers.{Asked}
use Rattle.forms.specs.Answers.{Explained}
use Rattle.forms.specs.Operations.{ask_by, ask_bits_by, explain_by}
use Rattle.verdicts.specs.Answers.{Verdicts}
use Rattle.verdicts.specs.Operation.{verdicts_by}

-- The bit table: a table has a byte for each place, or two bits
pub data Kind : Type 0 where
  bytes : Kind
  bits : Kind

-- the bytes of a table that its operations read and write
abbrev pub size_of : Kind → ℕ
size_of bytes = table_size
size_of bits = bits_size

-- what a table says
abbrev pub says_of : Kind → List ℕ → Statuses
says_of bytes = statuses
says_of bits = bit_statuses

-- the operations that both kinds have
abbrev pub start_on : Kind → Checks → List ℕ → Lent → StartOutcome
start_on bytes = start_by
start_on bits = start_bits_by

abbrev pub advance_on : Kind → Checks → List ℕ → Lent → ℕ → AdvanceOutcome
advance_on bytes = advance_by
advance_on bits = advance_bits_by

abbrev pub ask_on : Kind → Checks → List ℕ → List ℕ → List ℕ → Asked
ask_on bytes = ask_by
ask_on bits = ask_bits_by

-- The demands, 3: the calls that a list may have, explain and verdicts on bytes, the done count on bits; The two runs:
-- a listing or codes buffer belongs to its call alone
pub data Call : Kind → Type 0 where
  start : {k : Kind} → Call k
  advance : {k : Kind} → ℕ → Call k
  ask : {k : Kind} → (form : List ℕ) → Call k
  explain : (form listing : List ℕ) → Call bytes
  verdicts : (codes : List ℕ) → Call bytes
  count : Call bits

-- what a call answers
pub data Answer : Type 0 where
  started : Started → Answer
  advanced : Advanced → Answer
  asked : Asked → Answer
  explained : Explained → Answer
  judged : Verdicts → Answer
  counted : Counted → Answer

-- what a call leaves: its answer, its own buffer and the lent memory
pub record CallOutcome : Type 0 where
  pub answer : Answer
  pub own : List ℕ
  pub lent : Lent

-- a call on a job's bytes and the lent memory leaves what its operation's definition says; by the checks of a job
unfoldable pub outcome_by : (k : Kind) → Checks → List ℕ → Lent → Call k → CallOutcome
outcome_by k checks job m start =
    record { answer = started (start_on k checks job m).answer; own = []; lent = (start_on k checks job m).lent }
outcome_by k checks job m (advance n) =
    record {
      answer = advanced (advance_on k checks job m n).answer;
      own = [];
      lent = (advance_on k checks job m n).lent;
    }
outcome_by k checks job m (ask form) =
    record { answer = asked (ask_on k checks job m.table form); own = []; lent = m }
outcome_by bytes checks job m (explain form listing) =
    record {
      answer = explained (explain_by checks job m form listing).answer;
      own = (explain_by checks job m form listing).listing;
      lent = (explain_by checks job m form listing).lent;
    }
outcome_by bytes checks job m (verdicts codes) =
    record {
      answer = judged (verdicts_by checks job m.table codes).answer;
      own = (verdicts_by checks job m.table codes).codes;
      lent = record { table = (verdicts_by checks job m.table codes).table; reasons = m.reasons };
    }
outcome_by bits checks job m count = record { answer = counted (done_count_of m.table); own = []; lent = m }

-- The two runs: each call gets the run's job, and table and reasons as the call before left them
unfoldable pub run_by : (k : Kind) → Checks → List ℕ → Lent → List (Call k) → List CallOutcome
run_by k checks job m [] = []
run_by k checks job m (c ∷ cs) =
    outcome_by k checks job m c ∷ run_by k checks job (outcome_by k checks job m c).lent cs

-- and both by the checks of this product
abbrev pub outcome_of : (k : Kind) → List ℕ → Lent → Call k → CallOutcome
outcome_of k = outcome_by k job_check

abbrev pub run_of : (k : Kind) → List ℕ → Lent → List (Call k) → List CallOutcome
run_of k = run_by k job_check
