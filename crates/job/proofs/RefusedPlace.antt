-- A refusal by 3 to 7 names a record: its place is below the number of records. Assumes nothing.
use Rattle.grammar.proofs.Basics.{true, false, Bool, ◌&&◌, cond, not, List, ◌∷◌, [], ◌++◌, ℕ, ◌<◌, ◌≤◌, ◌+◌, ◌*◌, ◌%◌}
use Rattle.grammar.proofs.Basics.{arith, eqb, ltb, leb, length, length-append, eqb-true, leb-true, cases, and_left}
use Rattle.grammar.proofs.Basics.{◌≡◌, and_right, drop, length-drop, length-take-le}
use Rattle.job.specs.declared.JobRecord.{JobRecord}
use Rattle.job.specs.declared.Limits.{Limits}
use Rattle.job.specs.Records.{Checked}
use Rattle.job.specs.Format.{field_classes, records_of, byte_i, byte_s}
use Rattle.job.specs.Records.{first_fault, length_check_lem, bytes_check}
use Rattle.job.specs.Check.{count_kind, fault, record_place, job_format, missing, check_of, full_limits, job_check}
use Rattle.job.specs.Show.{part_of_lem, shown_part_lem, shown_of}
use Rattle.job.proofs.Records.{records_counted}
use Rattle.job.proofs.RecordChecks.{length_passed}

-- if the answer is 3 to 7, it names one of the first k records
abbrev NamesBelow : ℕ → Checked → Type 0
NamesBelow k c = 3 ≤ c.number → c.number ≤ 7 → c.place < k

either : {k : ℕ} (b : Bool) {c d : Checked} → NamesBelow k c → NamesBelow k d → NamesBelow k (cond b c d)
either true p q = p
either false p q = q

of_records : (limits : Limits) (seen rs : List JobRecord)
    → NamesBelow (length seen + length rs) (first_fault (job_format field_classes limits) seen rs)
unfolding first_fault record_place
of_records limits seen [] = omega arith
of_records limits seen (r ∷ rs) =
    either (eqb (fault field_classes limits seen r) 0)
    (λ h k. omega (arith, of_records limits (seen ++ (r ∷ [])) rs h k, length-append seen (r ∷ []))) (omega arith)

of_length : (k most size n : ℕ) → NamesBelow k (length_check_lem most size n)
unfolding length_check_lem
of_length k most size n =
    either (ltb most n) (omega arith) (either (not (eqb (n % size) 0)) (omega arith) (omega arith))

of_missing : (n : ℕ) (needed : Bool) (rs : List JobRecord) → NamesBelow n (missing needed rs)
unfolding missing
of_missing n needed rs =
    either (eqb (count_kind byte_s rs) 0) (omega arith)
    (either (needed && eqb (count_kind byte_i rs) 0) (omega arith) (omega arith))

-- so its four bytes stand in the job, and the job is not too long
module _ (limits : Limits) (needed : Bool) (job : List ℕ)
    (h : 3 ≤ (check_of field_classes limits needed job).number)
    (k : (check_of field_classes limits needed job).number ≤ 7) where
  not_long : length job ≤ 16384
  unfolding check_of bytes_check
  not_long =
      cases (eqb (length_check_lem 16384 4 (length job)).number 0)
      (λ t. (length_passed 16384 4 (length job) (eqb-true _ _ t)).0)
      (λ t. absurd (omega (arith, of_length 0 16384 4 (length job) (rw (t, t) at h) (rw (t, t) at k))))

  named : (check_of field_classes limits needed job).place < length (records_of job)
  unfolding check_of bytes_check
  named =
      let rs = records_of job in
      either (eqb (bytes_check (job_format field_classes limits) job).number 0) (of_missing (length rs) needed rs)
      (either (eqb (length_check_lem 16384 4 (length job)).number 0) (λ h k. omega (arith, of_records limits [] rs h k))
      (of_length (length rs) 16384 4 (length job)))
      h k

  record_within : 4 * (check_of field_classes limits needed job).place + 4 ≤ length job
  record_within = omega (arith, named, records_counted job)

  pub place_below : (check_of field_classes limits needed job).place < 4096
  place_below = omega (arith, not_long, record_within)

-- so the part that is shown stands in the job
pub part_within : (job : List ℕ) → (shown_part_lem job).offset + (shown_part_lem job).length ≤ length job
unfolding shown_part_lem part_of_lem
part_within job =
    let n = (job_check false job).number in
    cases (leb 3 n && leb n 7)
    (λ t. rw t (search (record_within full_limits false job, and_left, and_right, leb-true)))
    (λ t. rw t (omega arith))

-- and what is shown is as long as the part
pub shown_long : (job : List ℕ) → length (shown_of job) ≡ (shown_part_lem job).length
unfolding shown_of
shown_long job =
    length-take-le (shown_part_lem job).length (drop (shown_part_lem job).offset job)
    (omega (arith, part_within job, length-drop (shown_part_lem job).offset job))
