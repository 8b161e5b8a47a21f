-- The checks of start and advance: where they refuse nothing, what is lent is long enough and the job is accepted. By
-- the checks of a call. Assumes nothing.
use Rattle.grammar.proofs.Basics.{◌≡◌, true, List, ℕ, ◌≤◌, length}
use Rattle.job.specs.Records.{Checked}
use Rattle.job.specs.Accepted.{Accepted}
use Rattle.job.proofs.CallChecks.{both_pass, long_enough, call_passed}
use Rattle.machine.specs.Table.{Lent, table_size, reasons_size}
use Rattle.machine.specs.Operations.{machine_check_lem, machine_check_by}

-- what a call works on
pub record Passed (job : List ℕ) (m : Lent) : Type 0 where
  pub long : table_size ≤ length m.table
  pub long_reasons : reasons_size ≤ length m.reasons
  pub ok : Accepted true job

pub machine_passed : (job : List ℕ) (m : Lent) (c : Checked) → c ≡ machine_check_lem job m → c.number ≡ 0 → Passed job m
unfolding machine_check_by
machine_passed job m c checked e =
    let (short, ok) = call_passed _ true job (rw checked at e) in
    let (t, rs) = both_pass _ _ short in
    record { long = long_enough _ _ _ t; long_reasons = long_enough _ _ _ rs; ok = ok }
