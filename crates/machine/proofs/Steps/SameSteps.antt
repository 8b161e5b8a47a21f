-- Two tables that say the same, with the same reasons, take the same steps: after any number of them they say the same
-- again, with the same reasons, and the counts are equal. Assumes nothing.
use Rattle.grammar.proofs.Basics.{◌≡◌, refl, ◌∙◌, sym, ap, ap₂, cond, List, ℕ, ◌<◌, ◌-◌, suc, zero, arith, eqb, leb}
use Rattle.grammar.proofs.Basics.{get_or, leb-false, cases}
use Rattle.grammar.specs.Rule.{Rule}
use Rattle.machine.specs.Table.{Lent, table_size, reasons_size, from_state, symbol_at, to_state, Status, each}
use Rattle.machine.specs.Step.{lowest, is_finished, reason_after, taking, step}
use Rattle.machine.specs.Advance.{steps, steps_made, meetings_done, meetings_made}
use Rattle.machine.specs.Theorems.Steps.{LongTable}
use Rattle.machine.proofs.Tables.Each.{length_each, get_or_each_0, each_is}
use Rattle.machine.proofs.Tables.Lowest.{unfinished_below}
use Rattle.machine.proofs.Tables.RuleRanges.{RulesInRange}
use Rattle.machine.proofs.Steps.Taking.{taking_says, taking_length}
use Rattle.machine.proofs.Steps.StepLaws.{said, step_finished, step_taking}
use Rattle.machine.proofs.Steps.FirstPart.{lowest_agree, finished_agree, meetings_agree, comes_in_agree}
use Rattle.machine.proofs.Steps.FirstPart.{reason_agree}

-- two long tables that say the same, with the same reasons
pub record Same (m n : Lent) : Type 0 where
  pub long : LongTable m
  pub other_long : LongTable n
  pub says : (p : ℕ) → p < table_size → said m p ≡ said n p
  pub reasons : m.reasons ≡ n.reasons

pub same_finished : {m n : Lent} → Same m n → is_finished (said m) ≡ is_finished (said n)
same_finished {m} {n} same = finished_agree (said m) (said n) same.says

module _ (ρs : List Rule) (range : RulesInRange ρs) where
  -- the reasons are changed alike
  each_alike : (p : ℕ) → p < table_size → (m n : Lent) → Same m n → (rs : List ℕ) →
      each (reason_after ρs (said m) p) 0 rs ≡ each (reason_after ρs (said n) p) 0 rs
  each_alike p pl m n same rs =
      each_is _ rs _ (sym (length_each _ 0 rs))
      (λ k h.
      (cases (leb reasons_size k)
      (λ e. rw e)
      (λ e. reason_agree (said m) (said n) same.says ρs range p pl k (get_or rs k 0) (leb-false reasons_size k e)))
      ∙ sym (get_or_each_0 (reason_after ρs (said n) p) rs k h))

  reasons_alike : (p : ℕ) → p < table_size → (m n : Lent) → Same m n → (taking ρs p m).reasons ≡ (taking ρs p n).reasons
  unfolding taking
  reasons_alike p pl m n same =
      each_alike p pl m n same m.reasons ∙ ap (each (reason_after ρs (said n) p) 0) same.reasons

  taking_same : (p : ℕ) → p < table_size → (m n : Lent) → Same m n → Same (taking ρs p m) (taking ρs p n)
  taking_same p pl m n same =
      record {
        long = omega (arith, taking_length ρs p m, same.long);
        other_long = omega (arith, taking_length ρs p n, same.other_long);
        says = λ i l.
            taking_says ρs p m i l (omega (arith, same.long))
            ∙ ap₂ (λ c s. cond (eqb i p) Status.done (cond c Status.pending s))
            (comes_in_agree (said m) (said n) same.says ρs range p pl (from_state i) (symbol_at i) (to_state i)
            (omega arith) (omega arith) (omega arith)) (same.says i l)
            ∙ sym (taking_says ρs p n i l (omega (arith, same.other_long)));
        reasons = reasons_alike p pl m n same;
      }

  step_same : (m n : Lent) → Same m n → Same (step ρs m) (step ρs n)
  step_same m n same =
      cases (is_finished (said m))
      (λ e. rw (step_finished ρs m e, step_finished ρs n (sym (same_finished same) ∙ e)) same)
      (λ e.
      rw (
        step_taking ρs m e,
        step_taking ρs n (sym (same_finished same) ∙ e),
        sym (lowest_agree (said m) (said n) same.says),
      )
      (taking_same (lowest (said m)) (unfinished_below (said m) e) m n same))

  pub steps_same : (k : ℕ) (m n : Lent) → Same m n → Same (steps ρs k m) (steps ρs k n)
  unfolding steps
  steps_same zero m n same = same
  steps_same (suc k) m n same = steps_same k _ _ (step_same m n same)

  pub steps_made_same : (k : ℕ) (m n : Lent) → Same m n → steps_made ρs k m ≡ steps_made ρs k n
  unfolding steps_made
  steps_made_same zero m n same = refl
  steps_made_same (suc k) m n same =
      ap₂ (λ f made. cond f 0 (suc made)) (same_finished same) (steps_made_same k _ _ (step_same m n same))

  meetings_same : (m n : Lent) → Same m n → meetings_done ρs (said m) ≡ meetings_done ρs (said n)
  meetings_same m n same = meetings_agree (said m) (said n) same.says ρs range

  pub meetings_made_same : (k : ℕ) (m n : Lent) → Same m n → meetings_made ρs k m ≡ meetings_made ρs k n
  unfolding meetings_made
  meetings_made_same k m n same =
      ap₂ (λ after before. after - before) (meetings_same _ _ (steps_same k m n same)) (meetings_same m n same)
