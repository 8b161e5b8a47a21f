-- Steps of a table of bytes. What a step that takes a place keeps, all steps keep; so what holds of each step, however
-- tables are written, is drawn along a run. Each step that is made makes one place done, so the done count rises by
-- the steps made, and it cannot pass 65,536. Assumes nothing.
use Rattle.grammar.proofs.Basics.{◌≡◌, refl, ◌∙◌, ap, ⊎_elim, inl, inr, ◌⊎◌, true, false, List, ℕ, ◌≤◌, ◌+◌, suc, zero}
use Rattle.grammar.proofs.Basics.{zero-add, suc-add, arith, ltb, ltb-false, ltb-true, cases}
use Rattle.grammar.specs.Rule.{Rule}
use Rattle.grammar.proofs.Counting.{count_bound, count_equal, count-all}
use Rattle.machine.specs.Table.{Lent, KeepsRest, table_size, Statuses, says_done, is_done_at, statuses, done_count_lem}
use Rattle.machine.specs.Step.{lowest, is_finished, taking, step}
use Rattle.machine.specs.Advance.{steps, steps_made}
use Rattle.machine.specs.Theorems.Steps.{LongTable}
use Rattle.machine.proofs.Tables.Statuses.{done_not_pending}
use Rattle.machine.proofs.Tables.Lowest.{unfinished_below, lowest_is_pending, none_pending_finished}
use Rattle.machine.proofs.Steps.Taken.{Taken, taken_done, taken_done_count, done_others}
use Rattle.machine.proofs.Steps.Taking.{taking_length, taking_keeps_rest, taking_done_kept, taking_taken}
use Rattle.machine.proofs.Steps.Taking.{taking_says_past}

-- what the bytes of the lent table say
abbrev pub said : Lent → Statuses
said m = statuses m.table

module _ (ρs : List Rule) where
  pub step_finished : (m : Lent) → is_finished (said m) ≡ true → step ρs m ≡ m
  unfolding step
  step_finished m e = rw e

  pub step_taking : (m : Lent) → is_finished (said m) ≡ false → step ρs m ≡ taking ρs (lowest (said m)) m
  unfolding step
  step_taking m e = rw e

-- what holds of the lent memory, and is kept by taking a place, is kept by a step, and by all
module _ (P : Lent → Type 0) (ρs : List Rule)
    (keeps : (m : Lent) → is_finished (said m) ≡ false → P m → P (taking ρs (lowest (said m)) m)) where
  step_keeps : (m : Lent) → P m → P (step ρs m)
  step_keeps m h = cases (is_finished (said m)) (λ e. rw step_finished h) (λ e. rw step_taking (keeps m e h))

  pub steps_keep : (n : ℕ) (m : Lent) → P m → P (steps ρs n m)
  unfolding steps
  steps_keep zero m h = h
  steps_keep (suc n) m h = steps_keep n _ (step_keeps m h)

-- what is lent past a table and the reasons, as it was
pub rest_same : (size : ℕ) (m : Lent) → KeepsRest size m m
rest_same size m = record { long_table = refl; long_reasons = refl; rest_table = refl; rest_reasons = refl }

pub rest_after : (size : ℕ) (l m n : Lent) → KeepsRest size l m → KeepsRest size m n → KeepsRest size l n
rest_after size l m n a b =
    record {
      long_table = b.long_table ∙ a.long_table;
      long_reasons = b.long_reasons ∙ a.long_reasons;
      rest_table = b.rest_table ∙ a.rest_table;
      rest_reasons = b.rest_reasons ∙ a.rest_reasons;
    }

-- a table all of whose places are done is finished
all_done_finished : (v : Statuses) → table_size ≤ done_count_lem v → is_finished v ≡ true
unfolding done_count_lem
all_done_finished v all =
    none_pending_finished v
    (λ p h. done_not_pending (v p)
    (count_equal (is_done_at v) (λ i. true) table_size (λ i l e. refl)
    (omega (arith, count_bound (is_done_at v) table_size, count-all (λ i. true) table_size (λ i l. refl))) p h))

module _ (ρs : List Rule) where
  -- lengths, and what lies past the first 65,536 bytes and 32,768 numbers, stay
  pub steps_keep_rest : (n : ℕ) (m : Lent) → KeepsRest table_size m (steps ρs n m)
  steps_keep_rest n m =
      steps_keep (KeepsRest table_size m) ρs (λ m' f k. rest_after table_size m m' _ k (taking_keeps_rest ρs _ m')) n m
      (rest_same table_size m)

  pub steps_long : (n : ℕ) (m : Lent) → LongTable m → LongTable (steps ρs n m)
  steps_long n m long = omega (arith, (steps_keep_rest n m).long_table)

  -- the lowest place is taken
  pub lowest_taken : (m : Lent) → LongTable m → is_finished (said m) ≡ false →
      Taken ρs (said m) (lowest (said m)) (said (taking ρs (lowest (said m)) m))
  lowest_taken m long e = taking_taken ρs _ m (unfinished_below (said m) e) long (lowest_is_pending (said m) e)

  -- no place leaves done
  pub steps_done_kept :
      (n : ℕ) (m : Lent) (i : ℕ) → is_done_at (said m) i ≡ true → is_done_at (said (steps ρs n m)) i ≡ true
  steps_done_kept n m i = steps_keep (λ m'. is_done_at (said m') i ≡ true) ρs (λ m' f. taking_done_kept ρs _ m' i) n m

  -- on a finished table nothing happens
  pub finished_steps : (n : ℕ) (m : Lent) → is_finished (said m) ≡ true → steps ρs n m ≡ m
  unfolding steps
  finished_steps zero m e = refl
  finished_steps (suc n) m e = rw step_finished (finished_steps n m e)

  pub finished_steps_made : (n : ℕ) (m : Lent) → is_finished (said m) ≡ true → steps_made ρs n m ≡ 0
  unfolding steps_made
  finished_steps_made zero m e = refl
  finished_steps_made (suc n) m e = rw e

  -- a steps and then b are a + b steps
  pub steps_add : (a b : ℕ) (m : Lent) → steps ρs (a + b) m ≡ steps ρs b (steps ρs a m)
  unfolding steps
  steps_add zero b m = rw zero-add
  steps_add (suc a) b m = rw suc-add (steps_add a b _)

  pub steps_made_add : (a b : ℕ) (m : Lent) → steps_made ρs (a + b) m ≡ steps_made ρs a m + steps_made ρs b (steps ρs a m)
  unfolding steps steps_made
  steps_made_add zero b m = rw zero-add (omega arith)
  steps_made_add (suc a) b m =
      rw suc-add
      (cases (is_finished (said m))
      (λ e. rw e (omega (arith, ap (steps_made ρs b) (finished_steps (suc a) m e), finished_steps_made b m e)))
      (λ e. rw e (omega (arith, steps_made_add a b (step ρs m)))))

  -- fewer steps are made than asked for only where the table is finished
  pub made_all_or_finished : (n : ℕ) (m : Lent) → (steps_made ρs n m ≡ n) ⊎ (is_finished (said (steps ρs n m)) ≡ true)
  unfolding steps steps_made
  made_all_or_finished zero m = inl refl
  made_all_or_finished (suc n) m =
      cases (is_finished (said m))
      (λ e. inr (ap (λ m'. is_finished (said m')) (finished_steps (suc n) m e) ∙ e))
      (λ e. ⊎_elim (λ f. inl (rw e (ap suc f))) inr (made_all_or_finished n _))

  pub made_at_most : (n : ℕ) (m : Lent) → steps_made ρs n m ≤ n
  unfolding steps_made
  made_at_most zero m = omega arith
  made_at_most (suc n) m =
      cases (is_finished (said m)) (λ e. rw e (omega arith)) (λ e. rw e (omega (arith, made_at_most n (step ρs m))))

  -- the steps not yet finished make as many places done
  pub steps_done_count : (n : ℕ) (m : Lent) → LongTable m →
      done_count_lem (said (steps ρs n m)) ≡ done_count_lem (said m) + steps_made ρs n m
  unfolding steps steps_made
  steps_done_count zero m long = omega arith
  steps_done_count (suc n) m long =
      cases (is_finished (said m))
      (λ e. rw e (ap (λ m'. done_count_lem (said m')) (finished_steps (suc n) m e) ∙ omega arith))
      (λ e.
      let taken = step_taking ρs m e in
      rw e
      (omega (
        arith,
        steps_done_count n (step ρs m) (rw taken (omega (arith, taking_length ρs (lowest (said m)) m))),
        ap (λ m'. done_count_lem (said m')) taken,
        taken_done_count (lowest_taken m long e),
      )))

  -- 65,536 steps finish any table
  pub finishes : (n : ℕ) (m : Lent) → LongTable m → table_size ≤ n → is_finished (said (steps ρs n m)) ≡ true
  finishes n m long enough =
      ⊎_elim
      (λ all. all_done_finished (said (steps ρs n m)) (omega (arith, steps_done_count n m long)))
      (λ e. e) (made_all_or_finished n m)

-- what each step keeps of what a table says
pub steps_keep_said :
    (P : Statuses → Type 0) (ρs : List Rule) → ((v v' : Statuses) (p : ℕ) → Taken ρs v p v' → P v → P v') →
    (n : ℕ) (m : Lent) → LongTable m → P (said m) → P (said (steps ρs n m))
steps_keep_said P ρs keeps n m long h =
    (steps_keep (λ m'. LongTable m' × P (said m')) ρs
    (λ m' e k. (
      omega (arith, taking_length ρs (lowest (said m')) m'),
      keeps _ _ _ (lowest_taken ρs m' k.0 e) k.1,
    ))
    n m (long, h)).1

-- a step makes the lowest pending place done, and no other
module _ (ρs : List Rule) (m : Lent) (long : LongTable m) (unfinished : is_finished (said m) ≡ false) where
  pub step_done : is_done_at (said (step ρs m)) (lowest (said m)) ≡ true
  step_done = rw step_taking (taken_done (lowest_taken ρs m long unfinished))

  pub step_done_others : (i : ℕ) → (i ≡ lowest (said m) → ⊥) → is_done_at (said (step ρs m)) i ≡ is_done_at (said m) i
  step_done_others i d =
      rw step_taking
      (cases (ltb i table_size)
      (λ l. done_others (lowest_taken ρs m long unfinished) i (ltb-true i table_size l) d)
      (λ l. ap says_done (taking_says_past ρs (lowest (said m)) m i (ltb-false i table_size l))))
