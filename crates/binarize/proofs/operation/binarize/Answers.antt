-- `operation::binarize`: the check that refuses is the first that does; where none does, the bytes copied are those of
-- the records written. Assumes nothing.
use Rattle.job.specs.declared.Tally.{Tally}
use Rattle.job.specs.Inside.Walk.{tally_of, missing_by}
use Rattle.job.proofs.Walk.{missing_counted}
use Rattle.long_jobs.proofs.LongRecords.{long_records_counted}
use Rattle.grammar.proofs.Basics.{length-map, ◌/◌}
use Rattle.grammar.proofs.Basics.{◌≡◌, ◌∙◌, sym, ap, true, List, map, ◌++◌, ℕ, ◌≤◌, ◌*◌, arith, length, take}
use Rattle.grammar.proofs.Basics.{drop, length-take-le, ltb}
use Rattle.std.proofs.lemmas.Result.{err_from_is_err_and}
use Rattle.std.specs.Prelude.{Ok, Err}
use Rattle.job.specs.declared.Refusal.{Refusal}
use Rattle.job.specs.Format.{bytes_of}
use Rattle.job.specs.Records.{Checked, accepted, or_else}
use Rattle.job.specs.Refusals.{number_of, refused_by}
use Rattle.job.specs.Check.{missing}
use Rattle.job.proofs.RecordChecks.{both_pass, check_passed_test, bytes_passed}
use Rattle.job.proofs.JobChecks.{room_fits}
use Rattle.job.proofs.Bytes.{bytes_of_records}
use Rattle.job.proofs.Refusals.{is_number, refused_first}
use Rattle.long_jobs.specs.Dialect.{long_records_lem, short_of}
use Rattle.long_jobs.specs.Check.{long_format, long_check_lem}
use Rattle.long_jobs.specs.Operation.{refusal, job_records, size_check_lem, binarize_check, binarize_leaves, binarize_of}
use Rattle.long_jobs.specs.Inside.Parts.{WalkedTo}
use Rattle.long_jobs.proofs.Buffer.{first_counted}
use Rattle.binarize.proofs.operation.binarize.Goals as goal

-- what passes the check of its size fits
size_fits : (n room : ℕ) → (size_check_lem n room).number ≡ 0 → 4 * n ≤ room
unfolding size_check_lem
size_fits n room e = room_fits n room (check_passed_test (ltb 16384 (4 * n)) _ _ _ e).1

module _ (longJob out : List ℕ) where
  refused_call : (r : Refusal) → binarize_check longJob out ≡ refused_by r →
      binarize_leaves (refusal (number_of r.cause) r.place) out ≡ binarize_of longJob out
  unfolding binarize_of
  refused_call r e = rw (e, is_number r.cause)

  first_refuses : (r : Refusal) → refused_by r ≡ long_check_lem longJob → binarize_check longJob out ≡ refused_by r
  unfolding binarize_check
  first_refuses r is = rw (← is, refused_first r)

  module _ (first : accepted ≡ long_check_lem longJob) where
    short_enough : length longJob ≤ 49152
    short_enough = (bytes_passed long_format longJob (ap (λ c. c.number) (sym first))).0

    walk_refuses : (r : Refusal) (written : List ℕ) → WalkedTo (long_records_lem longJob) (Err r) written →
        binarize_check longJob out ≡ refused_by r
    unfolding binarize_check
    walk_refuses r written to = rw (← first, ← to.refusal, refused_first r)

    module _ (count : ℕ) (written : List ℕ) (to : WalkedTo (long_records_lem longJob) (Ok count) written) where
      within : 4 * count ≤ length written
      within = omega (arith, to.out_size, to.few)

      counted : length (job_records longJob) ≡ count
      counted = ap length (sym to.written) ∙ first_counted written count within

      -- the check after the walks, by what the records count to
      module _ (t : Tally) (all : t ≡ tally_of (map short_of (long_records_lem longJob))) where
        by_counts : missing true (map short_of (long_records_lem longJob)) ≡ missing_by true t (length longJob / 12)
        by_counts =
            rw (
              all,
              ← long_records_counted longJob,
              ← length-map (long_records_lem longJob) short_of,
              missing_counted true (map short_of (long_records_lem longJob)),
            )

        abbrev last : Checked
        last = or_else (missing_by true t (length longJob / 12)) (size_check_lem count (length out))

        last_decides : binarize_check longJob out ≡ last
        unfolding binarize_check
        last_decides = rw (← first, ← to.refusal, counted, by_counts)

        fits : accepted ≡ last → 4 * count ≤ length out
        fits passed =
            let (_, room) = both_pass (missing_by true t (length longJob / 12)) _ (ap (λ c. c.number) (sym passed)) in
            size_fits _ _ room

        front_long : accepted ≡ last → 4 * count ≡ length (take (4 * count) out)
        front_long passed = sym (length-take-le (4 * count) out (fits passed))

        part_long : length (take (4 * count) written) ≡ 4 * count
        part_long = length-take-le (4 * count) written within

        succeeded : accepted ≡ last → (front : List ℕ) → front ≡ take (4 * count) written →
            binarize_leaves (record { number = 0; place = 0; records = count }) (front ++ drop (4 * count) out)
            ≡ binarize_of longJob out
        unfolding binarize_of
        succeeded passed front copied =
            let bytes : bytes_of (job_records longJob) ≡ take (4 * count) written
            = rw (← to.written) (bytes_of_records count _ part_long) in
            rw (last_decides, ← passed, counted, bytes, copied)

pub returns-in_err-long_check : goal.returns-in_err-long_check
returns-in_err-long_check c =
    let p = err_from_is_err_and c.from_residual.result c.from_residual.ensures.1 in
    record {
      left = rw (p.1, p.2) (refused_call _ _ _ (first_refuses _ _ _ c.in_err-long_check.ensures.checked));
    }

pub walk-requires : goal.walk-requires
walk-requires c = record { within = short_enough _ c.args.out.now c.in_ok-long_check.ensures.checked }

pub returns-in_err-count : goal.returns-in_err-count
returns-in_err-count c =
    let q = c.from_residual-in_err-count in
    let p = err_from_is_err_and q.result q.ensures.1 in
    record {
      left =
          rw (p.1, p.2)
          (refused_call _ _ _
          (walk_refuses _ _ c.in_ok-long_check.ensures.checked _ _ c.in_err-count.ensures.walked));
    }

pub count_all-seen-requires : goal.count_all-seen-requires
count_all-seen-requires c = record { within = short_enough _ c.args.out.now c.in_ok-long_check.ensures.checked }

pub last_check-requires : goal.last_check-requires
last_check-requires c = record { few = c.in_ok-count.ensures.walked.few }

pub returns-in_err-last_check : goal.returns-in_err-last_check
returns-in_err-last_check c =
    let q = c.from_residual-in_err-last_check in
    let p = err_from_is_err_and q.result q.ensures.1 in
    record {
      left =
          rw (p.1, p.2)
          (refused_call _ _ _
          (last_decides _ _ c.in_ok-long_check.ensures.checked _ _ c.in_ok-count.ensures.walked _
          c.count_all-seen.ensures.counted ∙ sym c.in_err-last_check.ensures.checked));
    }

pub slice_bounds-copy_from_slice-end : goal.slice_bounds-copy_from_slice-end
slice_bounds-copy_from_slice-end c =
    fits _ _ c.in_ok-long_check.ensures.checked _ _ c.in_ok-count.ensures.walked _ c.count_all-seen.ensures.counted
    c.in_ok-last_check.ensures.checked

pub slice_bounds-copy_from_slice-end-2 : goal.slice_bounds-copy_from_slice-end-2
slice_bounds-copy_from_slice-end-2 c =
    front_long _ _ c.in_ok-long_check.ensures.checked _ _ c.in_ok-count.ensures.walked _ c.count_all-seen.ensures.counted
    c.in_ok-last_check.ensures.checked

pub copy_from_slice-requires : goal.copy_from_slice-requires
copy_from_slice-requires c =
    let e = c.in_ok-long_check.ensures.checked in
    let to = c.in_ok-count.ensures.walked in
    let all = c.count_all-seen.ensures.counted in
    sym (front_long _ _ e _ _ to _ all c.in_ok-last_check.ensures.checked)
    ∙ sym (part_long _ c.args.out.now e _ _ to _ all)

pub returns : goal.returns
returns c =
    record {
      left =
          succeeded _ _ c.in_ok-long_check.ensures.checked _ _ c.in_ok-count.ensures.walked _
          c.count_all-seen.ensures.counted c.in_ok-last_check.ensures.checked _ c.copy_from_slice.ensures.after;
    }
