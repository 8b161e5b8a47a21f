-- Laws of the checks of a job's bytes: where a job passes the verdicts' checks, all that is left is whether it has an
-- I, which the order of the records does not change. Assumes nothing.
use Rattle.grammar.proofs.Basics.{◌≡◌, refl, ap, false, Bool, ◌&&◌, List, [], ℕ, ◌≤◌, suc, ◌*◌, arith, eqb}
use Rattle.grammar.proofs.Basics.{ltb, length, ltb-false, cases}
use Rattle.job.specs.Format.{field_classes, records_of, byte_i}
use Rattle.job.specs.Check.{count_kind, full_limits, job_check, room_check}
use Rattle.job.specs.Accepted.{Accepted}
use Rattle.job.specs.Order.{SameRecords}
use Rattle.job.specs.Show.{part_of_lem, shown_part_lem, shown_of}
use Rattle.job.proofs.Permutation.{always_permutes, count_kind_permutes}
use Rattle.job.proofs.Accepted.{accepted_passed, accepted_check, only_initial}
use Rattle.job.proofs.OrderFree.{accepted_permutes}

-- The two runs: without an I, the other calls' 9 is the same in both runs
pub check_alike : (needed : Bool) {a b : List ℕ} → SameRecords a b → Accepted false a
    → job_check needed a ≡ job_check needed b
check_alike needed same ok =
    rw (
      only_initial field_classes full_limits needed (accepted_passed ok),
      only_initial field_classes full_limits needed (accepted_passed (accepted_permutes same ok)),
      count_kind_permutes byte_i same.permuted,
      always_permutes length (λ x l m e. ap suc e) (λ x y l. refl) same.permuted,
    )

-- so such a job is refused by 9 at most
pub check_number : (needed : Bool) {job : List ℕ} → Accepted false job → (job_check needed job).number ≤ 9
check_number needed {job} ok =
    rw (only_initial field_classes full_limits needed (accepted_passed ok))
    (cases (needed && eqb (count_kind byte_i (records_of job)) 0) (λ t. rw t (omega arith)) (λ t. rw t (omega arith)))

-- The two runs: showing gives both runs the empty part
pub nothing_shown : {job : List ℕ} → Accepted false job → shown_of job ≡ []
unfolding shown_of shown_part_lem part_of_lem
nothing_shown ok = rw (accepted_check ok)

-- records that are not refused by 13 fit
pub room_fits : (records room : ℕ) → (room_check records room).number ≡ 0 → 4 * records ≤ room
unfolding room_check
room_fits records room e =
    cases (ltb room (4 * records)) (λ t. absurd (omega (arith, rw t at e))) (λ t. ltb-false room (4 * records) t)
