-- A start and any steps keep the lengths of what is lent, and all past its first part; so a start that is not refused
-- is followed by no refusal of start or advance, on bytes or on bits. Assumes nothing.
use Rattle.grammar.proofs.Basics.{◌≡◌, List, ℕ}
use Rattle.job.specs.Job.{job_of}
use Rattle.machine.specs.Table.{Lent, KeepsRest, table_size}
use Rattle.machine.specs.Start.{started}
use Rattle.machine.specs.Advance.{steps}
use Rattle.machine.specs.Operations.{machine_check_by}
use Rattle.bit_machine.specs.Operations.{bits_check_by}
use Rattle.machine.proofs.Starts.StartLaws.{started_keeps_rest}
use Rattle.machine.proofs.Steps.StepLaws.{rest_after, steps_keep_rest}
use Rattle.claims.specs.Call.{Kind, bytes, bits, size_of}
use Rattle.claims.proofs.EitherTable.{check_on}

-- after a start and any steps
pub run_keeps : (job : List ℕ) (m : Lent) (n : ℕ) →
    KeepsRest table_size m (steps (job_of job).rules n (started (job_of job) m))
run_keeps job m n =
    let now = started (job_of job) m in
    rest_after table_size m now (steps (job_of job).rules n now) (started_keeps_rest (job_of job) m)
    (steps_keep_rest (job_of job).rules n now)

-- the check of start and advance stays what it is
pub number_stays : (k : Kind) (job : List ℕ) (m n : Lent) → KeepsRest (size_of k) m n → (check_on k job m).number ≡ 0 →
    (check_on k job n).number ≡ 0
unfolding machine_check_by bits_check_by
number_stays bytes job m n kept e = rw (kept.long_table, kept.long_reasons) e
number_stays bits job m n kept e = rw (kept.long_table, kept.long_reasons) e
