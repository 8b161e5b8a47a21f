-- The conversion of a whole long job, where nothing refuses it: the walk writes what the records are converted to one
-- after the other, and no more variables are taken than are free. Assumes nothing.
use Rattle.grammar.proofs.Basics.{◌≡◌, refl, List, ◌∷◌, [], ℕ, ◌≤◌, suc, arith, eqb, ltb, eqb-true, eqb-false}
use Rattle.grammar.proofs.Basics.{ltb-false, cases}
use Rattle.long_jobs.specs.Convert.{Conversion, convert}
use Rattle.long_jobs.specs.Walk.{convert_fault, convert_all}

-- the records are converted one after the other
unfoldable pub converts : (ℕ → ℕ) → List (List ℕ) → Conversion → Conversion
converts fresh [] c = c
converts fresh (r ∷ rs) c = converts fresh rs (convert fresh r c)

module _ (free : ℕ) (fresh : ℕ → ℕ) where
  fault_taken : (before after : Conversion) → convert_fault free before after ≡ 0 → after.taken ≤ free
  unfolding convert_fault
  fault_taken before after e =
      cases (ltb free after.taken) (λ t. absurd (omega (arith, rw t at e))) (λ t. ltb-false free after.taken t)

  pub converts_written : (i : ℕ) (rs : List (List ℕ)) (c : Conversion) → c.taken ≤ free →
      (convert_all free fresh i rs c).refusal.number ≡ 0 →
      ((convert_all free fresh i rs c).written ≡ (converts fresh rs c).written) × ((converts fresh rs c).taken ≤ free)
  unfolding convert_all converts
  converts_written i [] c h e = (refl, h)
  converts_written i (r ∷ rs) c h e =
      let after = convert fresh r c in
      let fault = convert_fault free c after in
      cases (eqb fault 0)
      (λ t. rw t (converts_written (suc i) rs after (fault_taken c after (eqb-true fault 0 t)) (rw t at e)))
      (λ t. absurd (eqb-false fault 0 t (rw t at e)))
