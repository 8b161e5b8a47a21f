-- Whether a record stands among the first records of a list: what one more comparison tells. Assumes nothing.
use Rattle.grammar.proofs.Basics.{◌≡◌, refl, sym, true, false, ◌||◌, or-false, or-true, or_assoc, List, ◌∷◌, [], ◌++◌}
use Rattle.grammar.proofs.Basics.{ℕ, ◌<◌, suc, zero, length, get_or, take, take-suc}
use native.Mathlib.Nat.{not-suc-le-zero, le_of_suc-le-suc}
use Rattle.job.specs.declared.JobRecord.{JobRecord}
use Rattle.job.specs.Format.{same, has, no_record}

module _ (r : JobRecord) where
  has_snoc : (xs : List JobRecord) (x : JobRecord) → has (xs ++ (x ∷ [])) r ≡ (has xs r || same x r)
  unfolding has
  has_snoc [] x = or-false (same x r)
  has_snoc (y ∷ ys) x = rw (has_snoc ys x) (sym (or_assoc (same y r) (has ys r) (same x r)))

  pub none_at_first : has [] r ≡ false
  unfolding has
  none_at_first = refl

  pub none_so_far : (rs : List JobRecord) (j : ℕ) → j < length rs → has (take j rs) r ≡ false
      → same (get_or rs j no_record) r ≡ false
      → has (take (suc j) rs) r ≡ false
  none_so_far rs j h e s = rw (take-suc rs j no_record, has_snoc (take j rs) (get_or rs j no_record), e, s)

  pub has_at : (rs : List JobRecord) (i j : ℕ) → j < i → j < length rs → same (get_or rs j no_record) r ≡ true
      → has (take i rs) r ≡ true
  unfolding has
  has_at [] i j h l s = absurd (not-suc-le-zero l)
  has_at (x ∷ xs) zero j h l s = absurd (not-suc-le-zero h)
  has_at (x ∷ xs) (suc i) zero h l s = rw s
  has_at (x ∷ xs) (suc i) (suc j) h l s = rw (has_at xs i j (le_of_suc-le-suc h) (le_of_suc-le-suc l) s, or-true)
