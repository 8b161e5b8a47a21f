-- The records of a long job by place: how many there are, and the twelve bytes of each. By recursion on their number.
-- Assumes nothing.
use Rattle.grammar.proofs.Basics.{◌≡◌, refl, ap, List, ◌∷◌, [], ℕ, ◌<◌, ◌≤◌, suc, zero, ◌*◌, ◌+◌, ◌/◌, arith, length, get_or, take}
use Rattle.grammar.proofs.Basics.{drop, length-take, length-drop}
use lib.Seq.{drop-drop}
use Rattle.std.specs.Simd.{first_chunks}
use Rattle.long_jobs.specs.Dialect.{twelves, long_records_lem}

twelves_counted : (n : ℕ) (longJob : List ℕ) → length (twelves n longJob) ≡ n
unfolding twelves
twelves_counted zero longJob = refl
twelves_counted (suc n) longJob = ap suc (twelves_counted n (drop 12 longJob))

twelve_at : (n : ℕ) (longJob : List ℕ) (i : ℕ) → i < n → get_or (twelves n longJob) i [] ≡ take 12 (drop (12 * i) longJob)
unfolding twelves
twelve_at zero longJob i h = absurd (omega arith)
twelve_at (suc n) longJob zero h = refl
twelve_at (suc n) longJob (suc i) h =
    let twelve_on : 12 * suc i ≡ 12 + 12 * i = omega arith in
    rw (twelve_on, ← drop-drop (12 * i) 12 longJob) (twelve_at n (drop 12 longJob) i (omega arith))

module _ (longJob : List ℕ) where
  pub long_records_counted : length (long_records_lem longJob) ≡ length longJob / 12
  unfolding long_records_lem
  long_records_counted = twelves_counted (length longJob / 12) longJob

  module _ (i : ℕ) (h : i < length (long_records_lem longJob)) where
    pub long_record_at : get_or (long_records_lem longJob) i [] ≡ take 12 (drop (12 * i) longJob)
    unfolding long_records_lem
    long_record_at = twelve_at (length longJob / 12) longJob i (omega (arith, long_records_counted))

    pub long_record_long : length (get_or (long_records_lem longJob) i []) ≡ 12
    long_record_long =
        rw (long_record_at, length-take, length-drop) (omega (arith, long_records_counted))

    -- what is read as a record has twelve bytes
    pub of_twelve_bytes : (r : List ℕ) → r ≡ get_or (long_records_lem longJob) i [] → length r ≡ 12
    of_twelve_bytes r is = rw is long_record_long

-- std's chunks of twelve are the records
twelve_each : (n : ℕ) (longJob : List ℕ) → first_chunks 12 n longJob ≡ twelves n longJob
unfolding twelves
twelve_each zero longJob = refl
twelve_each (suc n) longJob = ap (λ rs. take 12 longJob ∷ rs) (twelve_each n (drop 12 longJob))

pub in_chunks : (longJob : List ℕ) → first_chunks 12 (length longJob / 12) longJob ≡ long_records_lem longJob
unfolding long_records_lem
in_chunks longJob = twelve_each (length longJob / 12) longJob

pub few_records : (longJob : List ℕ) → length longJob ≤ 49152 → length (long_records_lem longJob) ≤ 4096
few_records longJob h = omega (arith, long_records_counted longJob)
