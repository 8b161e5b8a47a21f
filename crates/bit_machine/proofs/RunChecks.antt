-- The checks of start and advance on a bit table: where they refuse nothing, what is lent is long enough and the job
-- is accepted. By the checks of a call. Assumes nothing.
use Rattle.grammar.proofs.Basics.{◌≡◌, true, List, ℕ, ◌≤◌, length}
use Rattle.job.specs.Records.{Checked}
use Rattle.job.specs.Accepted.{Accepted}
use Rattle.job.proofs.CallChecks.{both_pass, long_enough, call_passed}
use Rattle.machine.specs.Table.{Lent, reasons_size}
use Rattle.bit_machine.specs.BitTable.{bits_size}
use Rattle.bit_machine.specs.Operations.{bits_check_lem, bits_check_by}

-- what a call works on
pub record BitsPassed (job : List ℕ) (m : Lent) : Type 0 where
  pub long : bits_size ≤ length m.table
  pub long_reasons : reasons_size ≤ length m.reasons
  pub ok : Accepted true job

pub bits_passed : (job : List ℕ) (m : Lent) (c : Checked) → c ≡ bits_check_lem job m → c.number ≡ 0 → BitsPassed job m
unfolding bits_check_by
bits_passed job m c checked e =
    let (short, ok) = call_passed _ true job (rw checked at e) in
    let (t, rs) = both_pass _ _ short in
    record { long = long_enough _ _ _ t; long_reasons = long_enough _ _ _ rs; ok = ok }
