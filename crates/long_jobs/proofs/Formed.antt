-- What is known of a record that is not refused by itself. Assumes nothing.
use Rattle.grammar.proofs.Basics.{◌≡◌, true, false, ◌&&◌, List, ◌∷◌, [], ℕ, ◌<◌, ltb, eqb, ltb-true}
use Rattle.grammar.proofs.Basics.{eqb-true, not-false, and_left, and_right}
use Rattle.grammar.proofs.Strings.{All, nil, cons}
use Rattle.job.specs.Format.{field_classes, row_of, bad_field_lem}
use Rattle.job.proofs.Shapes.{test_passed}
use Rattle.long_jobs.specs.Dialect.{kind_of, is_long_lem, head_of, body_of, short_of, all_below}
use Rattle.long_jobs.specs.Check.{is_unknown_lem, is_misfit_lem, form_fault_lem}

-- its kind is known, and its fields fit
pub record WellFormed (r : List ℕ) : Type 0 where
  pub known : is_unknown_lem r ≡ false
  pub fitting : is_misfit_lem r ≡ false

pub well_formed : (r : List ℕ) → form_fault_lem r ≡ 0 → WellFormed r
unfolding form_fault_lem
well_formed r e =
    let (unknown, e) = test_passed _ 2 _ e in
    record { known = unknown; fitting = (test_passed _ 3 _ e).0 }

-- the numbers of a list that are all below n
all_below_lem : (n : ℕ) (β : List ℕ) → all_below n β ≡ true → All (λ X. X < n) β
unfolding all_below
all_below_lem n [] e = nil
all_below_lem n (X ∷ β) e = cons (ltb-true X n (and_left (ltb X n) _ e)) (all_below_lem n β (and_right (ltb X n) _ e))

-- an L record has a variable for its head and symbols in its body, and any other is one of a job
pub long_fits : (r : List ℕ) → is_long_lem r ≡ true → WellFormed r → (head_of r < 32) × All (λ X. X < 64) (body_of r)
unfolding is_misfit_lem
long_fits r long f =
    let e = not-false (ltb (head_of r) 32 && all_below 64 (body_of r)) (rw long at f.fitting) in
    (ltb-true (head_of r) 32 (and_left _ _ e), all_below_lem 64 (body_of r) (and_right (ltb (head_of r) 32) _ e))

pub short_fits : (r : List ℕ) → is_long_lem r ≡ false → WellFormed r
    → (eqb (row_of (kind_of r)) 7 ≡ false) × (bad_field_lem field_classes (short_of r) ≡ 0)
unfolding is_misfit_lem
short_fits r short f = (rw short at f.known, eqb-true _ _ (not-false _ (rw short at f.fitting)))
