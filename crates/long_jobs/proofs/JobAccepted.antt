-- The job that a successful call leaves passes the checks of start: its records are those written, which the second
-- walk kept sound. Assumes nothing.
use Rattle.grammar.proofs.Basics.{◌≡◌, true, List, map, ℕ, ◌<◌, arith, eqb, length, eqb-false}
use native.Mathlib.Nat.{pos_of_ne-zero}
use Rattle.job.specs.declared.JobRecord.{JobRecord}
use Rattle.job.specs.Format.{field_classes, byte_i, byte_s}
use Rattle.job.specs.Check.{full_limits, count_kind, missing}
use Rattle.job.proofs.RecordChecks.{check_passed_test, bytes_passed}
use Rattle.job.proofs.Accepted.{passed_check}
use Rattle.job.proofs.Bytes.{bytes_counted}
use Rattle.long_jobs.specs.Dialect.{long_records_lem, short_of}
use Rattle.long_jobs.specs.Check.{long_format}
use Rattle.long_jobs.specs.Fresh.{free_in}
use Rattle.long_jobs.specs.Walk.{walked, next_free}
use Rattle.long_jobs.specs.Operation.{job_records}
use Rattle.long_jobs.specs.Theorems.Written.{job_written, WrittenAccepted}
use Rattle.long_jobs.proofs.Success.{Passes, success_passes, records_left, few_records}
use Rattle.long_jobs.proofs.FreeVariables.{free_variable}
use Rattle.long_jobs.proofs.WrittenSound.{Alike, walked_alike}

-- no S and no I is missing
none_missing : (rs : List JobRecord) → (missing true rs).number ≡ 0
    → (0 < count_kind byte_s rs) × (0 < count_kind byte_i rs)
unfolding missing
none_missing rs e =
    let (start, e) = check_passed_test _ _ _ _ e in
    let (initial, e) = check_passed_test (eqb (count_kind byte_i rs) 0) _ _ _ e in
    (pos_of_ne-zero (eqb-false _ _ start), pos_of_ne-zero (eqb-false _ _ initial))

written_alike : {longJob out : List ℕ} → Passes longJob out → Alike (long_records_lem longJob) (job_records longJob)
unfolding walked
written_alike {longJob} p =
    let rs = long_records_lem longJob in
    walked_alike (next_free (free_in rs)) (free_variable rs) (length (free_in rs)) rs
    (bytes_passed long_format longJob p.first_walk).2 p.second_walk

pub written_accepted_lem : WrittenAccepted
written_accepted_lem longJob out s =
    let p = success_passes longJob out s in
    let a = written_alike p in
    let (start, initial) = none_missing (map short_of (long_records_lem longJob)) p.none_missing in
    let counted = bytes_counted (job_records longJob) in
    passed_check field_classes full_limits true (job_written longJob out) (record {
      within = rw p.bytes (omega (arith, few_records p));
      whole = rw p.bytes (omega arith);
      sound = rw (records_left p) a.sound;
      start = rw (records_left p) (rw a.start start);
      initial = λ t. rw (records_left p) (rw a.initial initial);
    })
