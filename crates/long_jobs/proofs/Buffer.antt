-- The first records of a buffer: how many they are, and what one more is. Assumes nothing.
use Rattle.grammar.proofs.Basics.{◌≡◌, ◌∙◌, List, ◌∷◌, [], ◌++◌, ℕ, ◌<◌, ◌≤◌, ◌+◌, ◌*◌, arith, length, take, drop}
use Rattle.grammar.proofs.Basics.{length-take-le, length-append}
use Rattle.job.specs.declared.JobRecord.{JobRecord}
use Rattle.job.specs.Format.{bytes_of}
use Rattle.job.proofs.Records.{records_counted}
use Rattle.job.proofs.InFront.{front_held, front_more, front_size, front_read}
use Rattle.long_jobs.specs.Inside.Parts.{written_size, written_records, first_records}

-- one record was written behind the first n
pub record Appended (before after : List ℕ) (n : ℕ) (r : JobRecord) : Type 0 where
  pub size : length after ≡ written_size
  pub is : first_records (n + 1) after ≡ first_records n before ++ (r ∷ [])

module _ (out : List ℕ) where
  pub first_counted : (n : ℕ) → 4 * n ≤ length out → length (first_records n out) ≡ n
  first_counted n h = records_counted (take (4 * n) out) ∙ rw (length-take-le (4 * n) out h) (omega arith)

  -- a record put behind the first n
  pub appended : (n : ℕ) (r : JobRecord) (after : List ℕ) →
      after ≡ take (4 * n) out ++ (bytes_of (r ∷ []) ++ drop (4 * n + 4) out) → length out ≡ written_size →
      n < written_records → Appended out after n r
  appended n r after put e h =
      let count = first_counted n (omega arith) in
      let more = front_more (front_held n out (omega arith)) n r (omega arith) put in
      let counted : length (first_records n out ++ (r ∷ [])) ≡ n + 1 = rw length-append (omega arith) in
      record {
        size = front_size more (rw counted (omega arith)) ∙ e;
        is = rw counted at (front_read more);
      }
