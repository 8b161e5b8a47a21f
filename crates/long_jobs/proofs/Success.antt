-- What a call that is not refused has passed, and the job that it leaves. Assumes nothing.
use Rattle.grammar.proofs.Basics.{◌≡◌, ◌∙◌, ap, true, List, map, ℕ, ◌≤◌, ◌*◌, eqb, length, take_at, eqb-true}
use Rattle.grammar.proofs.Basics.{eqb-false, ltb-false, cases}
use Rattle.job.specs.Format.{records_of, bytes_of}
use Rattle.job.specs.Check.{missing}
use Rattle.job.proofs.RecordChecks.{both_pass, check_passed_test}
use Rattle.job.proofs.Bytes.{bytes_counted, records_of_bytes}
use Rattle.long_jobs.specs.Dialect.{long_records_lem, short_of}
use Rattle.long_jobs.specs.Check.{long_check_lem}
use Rattle.long_jobs.specs.Walk.{walked}
use Rattle.long_jobs.specs.Operation.{binarize_check, binarize_of, job_records, size_check_lem}
use Rattle.long_jobs.specs.Theorems.Written.{job_written, Succeeds}

-- the checks one by one, and the job's bytes
pub record Passes (longJob out : List ℕ) : Type 0 where
  pub first_walk : (long_check_lem longJob).number ≡ 0
  pub second_walk : (walked (long_records_lem longJob)).refusal.number ≡ 0
  pub none_missing : (missing true (map short_of (long_records_lem longJob))).number ≡ 0
  pub room : (size_check_lem (length (job_records longJob)) (length out)).number ≡ 0
  pub bytes : job_written longJob out ≡ bytes_of (job_records longJob)

pub success_passes : (longJob out : List ℕ) → Succeeds longJob out → Passes longJob out
unfolding binarize_of binarize_check
success_passes longJob out s =
    let n = (binarize_check longJob out).number in
    cases (eqb n 0)
    (λ t.
    let (first, e) = both_pass _ _ (eqb-true n 0 t) in
    let (second, e) = both_pass _ _ e in
    let (third, fourth) = both_pass _ _ e in
    record {
      first_walk = first;
      second_walk = second;
      none_missing = third;
      room = fourth;
      bytes = rw t (take_at (bytes_of (job_records longJob)) _ _ (bytes_counted (job_records longJob)));
    })
    (λ t. absurd (eqb-false n 0 t (rw t at s)))

-- the records of the job are those that were written
pub records_left : {longJob out : List ℕ} → Passes longJob out → records_of (job_written longJob out) ≡ job_records longJob
records_left p = ap records_of p.bytes ∙ records_of_bytes _

-- and they take at most 16,384 bytes
pub few_records : {longJob out : List ℕ} → Passes longJob out → 4 * length (job_records longJob) ≤ 16384
unfolding size_check_lem
few_records p = ltb-false _ _ (check_passed_test _ _ _ _ p.room).0
