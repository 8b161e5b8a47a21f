-- The bytes of records: four for each, the records read from them are those written, those in front of a buffer, and
-- one that is put into it. Assumes nothing.
use Rattle.grammar.proofs.Basics.{◌≡◌, refl, ◌∙◌, ap, List, ◌∷◌, [], ◌++◌, ℕ, ◌≤◌, ◌+◌, suc, zero, ◌*◌, arith, length}
use Rattle.grammar.proofs.Basics.{take, drop, set, sets, append_assoc}
use native.Mathlib.Numerals.{towards_suc}
use lib.Seq.{sets-eq}
use Rattle.job.specs.declared.JobRecord.{JobRecord}
use Rattle.job.specs.Format.{records_of, bytes_of}

pub bytes_counted : (rs : List JobRecord) → length (bytes_of rs) ≡ 4 * length rs
unfolding bytes_of
bytes_counted [] = refl
bytes_counted (r ∷ rs) = omega (arith, bytes_counted rs)

pub records_of_bytes : (rs : List JobRecord) → records_of (bytes_of rs) ≡ rs
unfolding bytes_of records_of
records_of_bytes [] = refl
records_of_bytes (r ∷ rs) = ap (λ l. r ∷ l) (records_of_bytes rs)

-- and the other way round
pub bytes_of_records : (n : ℕ) (b : List ℕ) → length b ≡ 4 * n → bytes_of (records_of b) ≡ b
unfolding bytes_of records_of
bytes_of_records n [] e = refl
bytes_of_records zero (k ∷ b) e = absurd (omega arith)
bytes_of_records (suc n) (k ∷ []) e = absurd (omega arith)
bytes_of_records (suc n) (k ∷ x ∷ []) e = absurd (omega arith)
bytes_of_records (suc n) (k ∷ x ∷ y ∷ []) e = absurd (omega arith)
bytes_of_records (suc n) (k ∷ x ∷ y ∷ z ∷ b) e = rw (bytes_of_records n b (omega arith))

four_on : (n : ℕ) → 4 * suc n ≡ suc (suc (suc (suc (4 * n))))
four_on n = omega arith

-- the first n records are those of the first 4 n bytes
pub records_in_front : (n : ℕ) (b : List ℕ) → records_of (take (4 * n) b) ≡ take n (records_of b)
unfolding records_of
records_in_front zero b = refl
records_in_front (suc n) [] = rw four_on
records_in_front (suc n) (k ∷ []) = rw four_on
records_in_front (suc n) (k ∷ x ∷ []) = rw four_on
records_in_front (suc n) (k ∷ x ∷ y ∷ []) = rw four_on
records_in_front (suc n) (k ∷ x ∷ y ∷ z ∷ b) = rw (four_on, records_in_front n b)

-- the bytes of records one behind the other
pub bytes_append : (rs ss : List JobRecord) → bytes_of (rs ++ ss) ≡ bytes_of rs ++ bytes_of ss
unfolding bytes_of
bytes_append [] ss = refl
bytes_append (r ∷ rs) ss = rw (bytes_append rs ss)

module _ (out : List ℕ) (n : ℕ) (h : 4 * n + 4 ≤ length out) where
  -- the four bytes of a record put in the place of others
  put : (r : JobRecord) →
      sets out (4 * n) (bytes_of (r ∷ [])) ≡ take (4 * n) out ++ (bytes_of (r ∷ []) ++ drop (4 * n + 4) out)
  unfolding bytes_of
  put r = sets-eq (bytes_of (r ∷ [])) out (4 * n) h ∙ append_assoc (take (4 * n) out) (bytes_of (r ∷ [])) _

  -- by four stores
  pub stored : (k a b d : ℕ) →
      set (set (set (set out (4 * n) k) (4 * n + 1) a) (4 * n + 2) b) (4 * n + 3) d
      ≡ take (4 * n) out
      ++ (bytes_of (record { kind = k; first = a; second = b; third = d } ∷ []) ++ drop (4 * n + 4) out)
  unfolding bytes_of
  stored k a b d = simp towards_suc (simp towards_suc at (put (record { kind = k; first = a; second = b; third = d })))
