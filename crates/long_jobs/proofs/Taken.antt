-- The strings that the taken variables stand for, in the order in which they are taken: the tails of each long body,
-- longest first. As many variables are taken as there are such strings. Assumes nothing.
use Rattle.grammar.proofs.Basics.{◌≡◌, ◌∙◌, cond, List, ◌∷◌, [], ◌++◌, ℕ, ◌<◌, ◌+◌, arith, length, get_or, length-append}
use Rattle.grammar.proofs.Basics.{cases}
use lib.ListN.{get_or-append}
use lib.Seq.{get_or-append-add}
use Rattle.job.specs.Job.{pair_record}
use Rattle.long_jobs.specs.Dialect.{is_long_lem, head_of, body_of}
use Rattle.long_jobs.specs.Convert.{Conversion, write, take_one, split, convert}
use Rattle.long_jobs.proofs.Converted.{converts}

unfoldable pub tails : List ℕ → List (List ℕ)
tails [] = []
tails (X ∷ []) = []
tails (X ∷ Y ∷ []) = []
tails (X ∷ Y ∷ Z ∷ β) = (Y ∷ Z ∷ β) ∷ tails (Y ∷ Z ∷ β)

abbrev pub record_strings : List ℕ → List (List ℕ)
record_strings r = cond (is_long_lem r) (tails (body_of r)) []

unfoldable pub all_strings : List (List ℕ) → List (List ℕ)
all_strings [] = []
all_strings (r ∷ rs) = record_strings r ++ all_strings rs

module _ (fresh : ℕ → ℕ) where
  split_taken : (A : ℕ) (β : List ℕ) (c : Conversion) → (split fresh A β c).taken ≡ c.taken + length (tails β)
  unfolding split tails
  split_taken A [] c = omega arith
  split_taken A (X ∷ []) c = omega arith
  split_taken A (X ∷ Y ∷ []) c = omega arith
  split_taken A (X ∷ Y ∷ Z ∷ β) c =
      let B = fresh c.taken in
      omega (arith, split_taken B (Y ∷ Z ∷ β) (take_one (write (pair_record A X B) c)))

  pub convert_taken : (r : List ℕ) (c : Conversion) → (convert fresh r c).taken ≡ c.taken + length (record_strings r)
  unfolding convert
  convert_taken r c = cases (is_long_lem r) (λ t. rw t (split_taken (head_of r) (body_of r) c)) (λ t. rw t (omega arith))

  pub all_taken : (rs : List (List ℕ)) (c : Conversion) →
      (converts fresh rs c).taken ≡ c.taken + length (all_strings rs)
  unfolding converts all_strings
  all_taken [] c = omega arith
  all_taken (r ∷ rs) c =
      omega (
        arith,
        all_taken rs (convert fresh r c),
        convert_taken r c,
        length-append (record_strings r) (all_strings rs),
      )

-- the variables from the k-th on stand for these strings
pub record Stand (σ : ℕ → List ℕ) (fresh : ℕ → ℕ) (k : ℕ) (ts : List (List ℕ)) : Type 0 where
  pub at : (j : ℕ) → j < length ts → σ (fresh (k + j)) ≡ get_or ts j []

module _ {σ : ℕ → List ℕ} {fresh : ℕ → ℕ} {k : ℕ} (ts us : List (List ℕ)) (s : Stand σ fresh k (ts ++ us)) where
  pub stand_first : Stand σ fresh k ts
  stand_first =
      record { at = λ j h. s.at j (omega (arith, length-append ts us)) ∙ get_or-append ts us [] j h }

  pub stand_rest : Stand σ fresh (k + length ts) us
  stand_rest =
      record {
        at = λ j h.
            let e : k + length ts + j ≡ k + (length ts + j) = omega arith in
            rw e (s.at (length ts + j) (omega (arith, length-append ts us)) ∙ get_or-append-add ts us j []);
      }
