-- What the first walk has tried where it refuses nothing: no record is refused by itself, and none is a second S or I.
-- By recursion on the records. Assumes nothing.
use Rattle.grammar.proofs.Basics.{◌≡◌, false, List, map, [], List·Memᴰ, List·Memᴰ·head, List·Memᴰ·tail, ℕ, eqb}
use Rattle.grammar.proofs.Basics.{eqb-true, eqb-false, cases}
use Rattle.grammar.proofs.NoRepeat.{member_at}
use Rattle.job.specs.Records.{first_fault}
use Rattle.job.specs.Check.{is_second_lem}
use Rattle.job.proofs.Shapes.{test_passed}
use Rattle.job.proofs.RecordChecks.{walks_on, bytes_passed}
use Rattle.long_jobs.specs.Dialect.{long_records_lem, short_of}
use Rattle.long_jobs.specs.Check.{form_fault_lem, fault, long_format, long_check_lem}
use Rattle.long_jobs.specs.Inside.Parts.{AllFormed}

-- what a record that is not refused after those seen has passed
pub faultless : (seen : List (List ℕ)) (r : List ℕ) → fault seen r ≡ 0
    → (form_fault_lem r ≡ 0) × (is_second_lem (map short_of seen) (short_of r) ≡ false)
unfolding fault
faultless seen r e =
    cases (eqb (form_fault_lem r) 0) (λ t. (eqb-true (form_fault_lem r) 0 t, (test_passed _ 5 0 (rw t at e)).0))
    (λ t. absurd (eqb-false (form_fault_lem r) 0 t (rw t at e)))

-- so no member is refused by itself
each_formed : {r : List ℕ} (seen : List (List ℕ)) {rs : List (List ℕ)} → (first_fault long_format seen rs).number ≡ 0
    → List·Memᴰ r rs
    → form_fault_lem r ≡ 0
each_formed seen e (List·Memᴰ·head q) = rw q (faultless seen _ (walks_on long_format seen _ _ e).0).0
each_formed seen e (List·Memᴰ·tail m) = each_formed _ (walks_on long_format seen _ _ e).1 m

pub all_formed : (longJob : List ℕ) → (long_check_lem longJob).number ≡ 0 → AllFormed (long_records_lem longJob)
all_formed longJob e i h = each_formed [] (bytes_passed long_format longJob e).2 (member_at [] (long_records_lem longJob) i h)
