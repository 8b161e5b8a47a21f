-- The checks of a form by what holds of its symbols: it is refused at the first byte over 63, and fits where there is
-- none. Assumes nothing.
use Rattle.grammar.proofs.Basics.{◌≡◌, refl, ◌∙◌, ap, true, List, ◌∷◌, [], ℕ, ◌<◌, ◌≤◌, ◌+◌, suc, zero, suc-le-suc}
use Rattle.grammar.proofs.Basics.{add-zero, arith, ltb, length, get_or, ltb-false, lt-ltb, le-ltb, cases}
use Rattle.job.specs.Accepted.{Accepted}
use Rattle.job.specs.Check.{job_check, short_buffer_lem, refused, accepted}
use Rattle.job.proofs.CallChecks.{both_pass, long_enough, call_passed}
use Rattle.forms.specs.Acceptance.{SymbolsFit}
use Rattle.forms.specs.Operations.{first_over, form_check_lem, ask_checks, ask_check_lem, ask_check_by}
use Rattle.forms.specs.Inside.AcceptanceParts.{FormFits}

-- the symbols before a position fit
abbrev pub FitBefore : List ℕ → ℕ → Type 0
FitBefore w i = (k : ℕ) → k < i → get_or w k 0 ≤ 63

over_at : (w : List ℕ) (base i : ℕ) → FitBefore w i → i < length w → 63 < get_or w i 0 → first_over base w
    ≡ refused 11 (base + i)
unfolding first_over
over_at [] base i fits below over = absurd (omega arith)
over_at (x ∷ w) base zero fits below over = rw (lt-ltb 63 x over, add-zero)
over_at (x ∷ w) base (suc i) fits below over =
    rw (le-ltb 63 x (fits zero (omega arith)))
    (over_at w (suc base) i (λ k h. fits (suc k) (suc-le-suc h)) (omega arith) over ∙ ap (refused 11) (omega arith))

none_over : (w : List ℕ) (base : ℕ) → SymbolsFit w → first_over base w ≡ accepted
unfolding first_over
none_over [] base fits = refl
none_over (x ∷ w) base fits =
    rw (le-ltb 63 x (fits zero (omega arith))) (none_over w (suc base) (λ i h. fits (suc i) (suc-le-suc h)))

fits_first : (x : ℕ) (w : List ℕ) → x ≤ 63 → SymbolsFit w → SymbolsFit (x ∷ w)
fits_first x w h rest zero below = h
fits_first x w h rest (suc i) below = rest i (omega arith)

fit_of_none : (w : List ℕ) (base : ℕ) → (first_over base w).number ≡ 0 → SymbolsFit w
unfolding first_over
fit_of_none [] base none = λ i below. absurd (omega arith)
fit_of_none (x ∷ w) base none =
    cases (ltb 63 x) (λ over. absurd (omega (arith, rw over at none)))
    (λ fits. fits_first x w (ltb-false 63 x fits) (fit_of_none w (suc base) (rw fits at none)))

pub form_too_long : (w : List ℕ) → 64 < length w → form_check_lem w ≡ refused 12 (length w)
unfolding form_check_lem
form_too_long w h = rw (lt-ltb 64 (length w) h)

pub form_over :
    (w : List ℕ) (i : ℕ) → length w ≤ 64 → FitBefore w i → i < length w → 63 < get_or w i 0 → form_check_lem w ≡ refused 11 i
unfolding form_check_lem
form_over w i short fits below over =
    rw (le-ltb 64 (length w) short) (over_at w 0 i fits below over ∙ ap (refused 11) (omega arith))

pub form_fits : (w : List ℕ) → length w ≤ 64 → SymbolsFit w → form_check_lem w ≡ accepted
unfolding form_check_lem
form_fits w short fits = rw (le-ltb 64 (length w) short) (none_over w 0 fits)

-- a form that is not refused fits
pub fits_of_check : (w : List ℕ) → (form_check_lem w).number ≡ 0 → FormFits w
unfolding form_check_lem
fits_of_check w none =
    cases (ltb 64 (length w)) (λ long. absurd (omega (arith, rw long at none)))
    (λ short. record { short = ltb-false 64 (length w) short; symbols = fit_of_none w 0 (rw short at none) })

-- its refusals are 11 and 12
first_over_number : (k : ℕ) (form : List ℕ) → (first_over k form).number ≤ 12
unfolding first_over
first_over_number k [] = omega arith
first_over_number k (X ∷ form) =
    cases (ltb 63 X) (λ t. rw t (omega arith)) (λ t. rw t (first_over_number (suc k) form))

pub form_number : (form : List ℕ) → (form_check_lem form).number ≤ 12
unfolding form_check_lem
form_number form = cases (ltb 64 (length form)) (λ t. rw t (omega arith)) (λ t. rw t (first_over_number 0 form))

-- what ask has made sure of where it refuses nothing
pub record AskPassed (n needed : ℕ) (job form : List ℕ) : Type 0 where
  pub long : needed ≤ n
  pub job_accepted : Accepted true job
  pub form_fits : FormFits form

pub ask_passed : (n needed : ℕ) (job form : List ℕ) → (ask_checks job_check (short_buffer_lem n needed 1) job form).number ≡ 0 →
    AskPassed n needed job form
ask_passed n needed job form e =
    let (c, f) = both_pass _ (form_check_lem form) e in
    let (short, ok) = call_passed _ true job c in
    record { long = long_enough n needed 1 short; job_accepted = ok; form_fits = fits_of_check form f }

pub ask_table_passed : (job table form : List ℕ) → (ask_check_lem job table form).number ≡ 0 →
    AskPassed (length table) 65536 job form
unfolding ask_check_by
ask_table_passed job table form e = ask_passed (length table) 65536 job form e
