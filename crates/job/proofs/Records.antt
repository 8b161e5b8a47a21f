-- The records of a job by place: how many there are, and the four bytes of each. By recursion on the bytes, four at a
-- time. Assumes nothing.
use Rattle.grammar.proofs.Basics.{◌≡◌, refl, List, ◌∷◌, [], ℕ, ◌≤◌, ◌+◌, suc, zero, ◌*◌, ◌/◌, suc-add, arith, length}
use Rattle.grammar.proofs.Basics.{get_or}
use Rattle.job.specs.declared.JobRecord.{JobRecord}
use Rattle.job.specs.Format.{records_of, no_record}

pub records_counted : (b : List ℕ) → length (records_of b) ≡ length b / 4
unfolding records_of
records_counted [] = refl
records_counted (k ∷ []) = refl
records_counted (k ∷ x ∷ []) = refl
records_counted (k ∷ x ∷ y ∷ []) = refl
records_counted (k ∷ x ∷ y ∷ z ∷ rest) = omega (arith, records_counted rest)

-- the record whose four bytes stand from a place on
abbrev pub record_from : List ℕ → ℕ → JobRecord
record_from b at =
    record { kind = get_or b at 0; first = get_or b (at + 1) 0; second = get_or b (at + 2) 0; third = get_or b (at + 3) 0 }

pub record_of_bytes : (b : List ℕ) (i : ℕ) → 4 * i + 4 ≤ length b
    → get_or (records_of b) i no_record ≡ record_from b (4 * i)
unfolding records_of
record_of_bytes [] i h = absurd (omega arith)
record_of_bytes (k ∷ []) i h = absurd (omega arith)
record_of_bytes (k ∷ x ∷ []) i h = absurd (omega arith)
record_of_bytes (k ∷ x ∷ y ∷ []) i h = absurd (omega arith)
record_of_bytes (k ∷ x ∷ y ∷ z ∷ rest) zero h = refl
record_of_bytes (k ∷ x ∷ y ∷ z ∷ rest) (suc i) h =
    let four_on : 4 * suc i ≡ suc (suc (suc (suc (4 * i)))) = omega arith in
    rw four_on (simp suc-add (record_of_bytes rest i (omega arith)))
