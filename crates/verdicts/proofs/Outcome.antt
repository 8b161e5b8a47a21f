-- What a call of the verdicts leaves, by whether it is refused. Assumes nothing.
use Rattle.grammar.proofs.Basics.{◌≡◌, false, List, ℕ, ◌≤◌, length, eq-eqb, ne_eqb}
use Rattle.job.specs.Records.{Checked}
use Rattle.job.specs.Accepted.{Accepted}
use Rattle.job.specs.Job.{job_of}
use Rattle.job.proofs.CallChecks.{both_pass, long_enough, call_passed}
use Rattle.verdicts.specs.Operation.{verdicts_check_lem, verdicts_check_by, verdicts_leave, verdicts_on, verdicts_of}
use Rattle.verdicts.specs.Operation.{verdicts_by}

-- a call that is not refused
pub record Unrefused (job table codes : List ℕ) : Type 0 where
  pub passes : Accepted false job
  pub table_long_lem : 65536 ≤ length table
  pub codes_long : 64 ≤ length codes

pub unrefused : (job table codes : List ℕ) → (verdicts_check_lem job table codes).number ≡ 0 → Unrefused job table codes
unfolding verdicts_check_by
unrefused job table codes e =
    let (short, ok) = call_passed _ false job e in
    let (t, c) = both_pass _ _ short in
    record { passes = ok; table_long_lem = long_enough _ _ _ t; codes_long = long_enough _ _ _ c }

pub verdicts_given : (job table codes : List ℕ) → (verdicts_check_lem job table codes).number ≡ 0 →
    verdicts_of job table codes ≡ verdicts_on (job_of job) table codes
unfolding verdicts_by
verdicts_given job table codes z = rw (eq-eqb (verdicts_check_lem job table codes).number 0 z)

-- and one that is
pub verdicts_refused_lem :
    (job table codes : List ℕ) (c : Checked) → c ≡ verdicts_check_lem job table codes → (c.number ≡ 0 → ⊥) →
    verdicts_of job table codes
    ≡ verdicts_leave (record { number = c.number; place = c.place; empty = false; growing = false }) table codes
unfolding verdicts_by
verdicts_refused_lem job table codes c e d = rw (← e) (rw (ne_eqb c.number 0 d))
