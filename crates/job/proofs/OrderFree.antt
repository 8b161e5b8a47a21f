-- The order of the records: each part of what is accepted, and of what a job says, is the same for permuted records;
-- ranks are counts since the sorted rules rise. Assumes nothing.
use Rattle.grammar.proofs.Basics.{◌≡◌, false, Bool, List, map, List-as-Permᴰ, ℕ}
use Rattle.job.specs.declared.JobRecord.{JobRecord}
use Rattle.job.specs.declared.Limits.{Limits}
use Rattle.job.specs.Format.{field_classes, records_of, byte_i, byte_s, no_record}
use Rattle.job.specs.Check.{full_limits}
use Rattle.job.specs.Accepted.{Accepted}
use Rattle.job.specs.Job.{rule_of, transition_record, final_record, job_of, job_of_records}
use Rattle.job.specs.Order.{SameRecords}
use Rattle.job.specs.Theorems.RankCounts.{RankCounts}
use Rattle.job.specs.Theorems.OrderFree.{AcceptedAlike, SameJob}
use Rattle.job.proofs.Permutation.{has_permutes, count_kind_permutes, states_permute, field_permutes}
use Rattle.job.proofs.Sound.{Sound, sound_permutes}
use Rattle.job.proofs.Accepted.{check_passed, passed_check, accepted_passed, check_accepts_lem, accepted_check}
use Rattle.job.proofs.SortedRules.{sorted_permutes}
use Rattle.job.proofs.Ranks.{sorted_rising, rising_counts}

pub accepted_alike_lem : AcceptedAlike
accepted_alike_lem classes limits needed a b same e =
    let it = check_passed classes limits needed a e in
    passed_check classes limits needed b
    (search (
      ← same.long,
      sound_permutes,
      ← count_kind_permutes byte_s same.permuted,
      ← count_kind_permutes byte_i same.permuted,
      it.initial,
    ))

-- sound records say the same in any order
sound_same : {limits : Limits} {l m : List JobRecord} → List-as-Permᴰ l m → Sound field_classes limits l
    → job_of_records l ≡ job_of_records m
unfolding job_of_records
sound_same d s =
    λ i.
    record {
      rules = map rule_of (sorted_permutes d s.fitting i);
      given = λ q X r. has_permutes (transition_record q X r) d i;
      start = field_permutes byte_s d s.one_start i;
      initial = field_permutes byte_i d s.one_initial i;
      final = λ q. has_permutes (final_record q) d i;
      states = states_permute d i;
    }

pub same_job_lem : SameJob
unfolding job_of
same_job_lem limits a b same e = sound_same same.permuted (check_passed field_classes limits false a e).sound

-- the same two laws over `Accepted`
pub accepted_permutes : {needed : Bool} {a b : List ℕ} → SameRecords a b → Accepted needed a → Accepted needed b
accepted_permutes {needed} {a} {b} same ok =
    (check_accepts_lem needed b).0 (accepted_alike_lem field_classes full_limits needed a b same (accepted_check ok))

pub accepted_same_job : {needed : Bool} {a b : List ℕ} → SameRecords a b → Accepted needed a → job_of a ≡ job_of b
unfolding job_of
accepted_same_job same ok = sound_same same.permuted (accepted_passed ok).sound

pub rank_counts_lem : RankCounts
rank_counts_lem limits job e i h =
    let s : Sound field_classes limits (records_of job) = (check_passed field_classes limits false job e).sound in
    rising_counts no_record _ (sorted_rising (records_of job) s.fitting s.distinct) i h
