-- The checks of a call: where they pass, each lent buffer is long enough and the job is accepted. By the tests in turn.
-- Assumes nothing.
use Rattle.grammar.proofs.Basics.{◌≡◌, Bool, List, ℕ, ◌≤◌, arith, ltb, ltb-false, cases}
use Rattle.job.specs.Records.{Checked}
use Rattle.job.specs.Check.{short_buffer_lem, or_else, job_check}
use Rattle.job.specs.Accepted.{Accepted}
use Rattle.job.proofs.Accepted.{number_accepted}
pub use Rattle.job.proofs.RecordChecks.{both_pass}

-- a buffer that is not refused is long enough
pub long_enough : (long needed place : ℕ) → (short_buffer_lem long needed place).number ≡ 0 → needed ≤ long
long_enough long needed place e =
    cases (ltb long needed) (λ t. absurd (omega (arith, rw t at e))) (λ t. ltb-false long needed t)

-- past its buffers a call has an accepted job
pub call_passed : (short : Checked) (needed : Bool) (job : List ℕ) → (or_else short (job_check needed job)).number ≡ 0 →
    (short.number ≡ 0) × Accepted needed job
call_passed short needed job e =
    let (s, c) = both_pass short (job_check needed job) e in
    (s, number_accepted needed job c)
