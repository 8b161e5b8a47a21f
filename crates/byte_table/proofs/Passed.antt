-- Where the checks of start and advance refuse nothing, a run has all that it asks for. No step of the code is named,
-- so that an advance that passes on another refusal fails by what it answers. Assumes nothing.
use Rattle.grammar.proofs.Basics.{◌≡◌, true, List, ℕ, ◌≤◌, length}
use Rattle.job.specs.Records.{Checked}
use Rattle.job.specs.Accepted.{Accepted}
use Rattle.machine.specs.Table.{Lent, lent_of, table_size, reasons_size}
use Rattle.machine.specs.Operations.{machine_check_lem}
use Rattle.machine.proofs.MachineChecks.{machine_passed}

pub lent_long : (job table reasons : List ℕ) (c : Checked) → c ≡ machine_check_lem job (lent_of table reasons)
    → c.number ≡ 0 → (table_size ≤ length table) × (reasons_size ≤ length reasons)
lent_long job table reasons c checked e =
    let p = machine_passed job (lent_of table reasons) c checked e in (p.long, p.long_reasons)

pub job_accepted : (job : List ℕ) (m : Lent) (c : Checked) → c ≡ machine_check_lem job m → c.number ≡ 0
    → Accepted true job
job_accepted job m c checked e = (machine_passed job m c checked e).ok
