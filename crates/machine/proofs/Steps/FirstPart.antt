-- The machine reads and writes only the first 65,536 bytes and 32,768 reasons: to cut what is lent down to these, and
-- then to start or to make steps, is the same as the other way round, and the counts are those of the part. A rule in
-- range makes places below 65,536, so a step depends on what a table says there alone. Assumes nothing.
use Rattle.grammar.proofs.Basics.{◌≡◌, refl, ◌∙◌, sym, ap, ap₂, cond, List, ◌∷◌, [], List·Memᴰ·head, List·Memᴰ·tail, ℕ}
use Rattle.grammar.proofs.Basics.{◌<◌, ◌≤◌, suc, ◌-◌, zero, min, arith, leb, length, get_or, take, length-take, ◌&&◌}
use Rattle.grammar.proofs.Basics.{eqb, get_or-take, ext_get_or, leb-false, lt-leb, cases}
use Rattle.grammar.specs.Rule.{Rule, empty, unit, pair}
use Rattle.grammar.proofs.Meetings.{Test, AgreeBelow, meetings_cong}
use Rattle.job.specs.Job.{Job}
use Rattle.job.specs.Theorems.InRange.{RuleInRange}
use Rattle.machine.specs.Table.{Lent, lent_of, table_size, reasons_size, table_place, from_state, symbol_at, to_state}
use Rattle.machine.specs.Table.{reason_state, reason_variable, Statuses, says_pending, says_done, done_in, done_at_lem}
use Rattle.machine.specs.Table.{says_absent, byte_status, statuses, lesser, entry_of, each}
use Rattle.machine.specs.Start.{start_byte, start_reason, started}
use Rattle.machine.specs.Step.{lowest, is_finished, offer, least_offer, offered, comes_in, byte_after}
use Rattle.machine.specs.Step.{reason_after, taking, step}
use Rattle.machine.specs.Advance.{steps, steps_made, meetings_done, meetings_made}
use Rattle.machine.specs.Theorems.Steps.{LongTable}
use Rattle.machine.proofs.Tables.Each.{length_each, get_or_each_0, take_each}
use Rattle.machine.proofs.Tables.Lowest.{lowest_cong}
use Rattle.machine.proofs.Tables.RuleRanges.{RulesInRange, pairs_in_range}
use Rattle.machine.proofs.Steps.Turns.{turn_agree}
use Rattle.machine.proofs.Steps.StepLaws.{said, step_finished, step_taking}

-- what is offered depends on done transitions in range
module _ (done done' : Test)
    (agree : AgreeBelow (λ X. X < 64) 32 done done')
    (q X r a A b : ℕ) (ql : q < 32) (rl : r < 32) (al : a < 32) (bl : b < 32) where
  offer_cong : (rank : ℕ) (ρ : Rule) → RuleInRange ρ → offer done q X r rank ρ a A b ≡ offer done' q X r rank ρ a A b
  unfolding offer
  offer_cong rank (empty H) l = refl
  offer_cong rank (unit H Y) l = refl
  offer_cong rank (pair H Y Z) l = rw (agree r Z b rl l.2 bl, agree a Y q al l.1 ql)

  least_offer_cong : (rank : ℕ) (ρs : List Rule) → RulesInRange ρs →
      least_offer done q X r rank ρs a A b ≡ least_offer done' q X r rank ρs a A b
  unfolding least_offer
  least_offer_cong rank [] range = refl
  least_offer_cong rank (ρ ∷ ρs) range =
      ap₂ lesser (offer_cong rank ρ (range ρ (List·Memᴰ·head refl)))
      (least_offer_cong (suc rank) ρs (λ σ member. range σ (List·Memᴰ·tail member)))

-- two tables that say the same below 65,536
module _ (v w : Statuses) (agree : (p : ℕ) → p < table_size → v p ≡ w p) where
  pub lowest_agree : lowest v ≡ lowest w
  lowest_agree = lowest_cong v w (λ p l. ap says_pending (agree p l))

  pub finished_agree : is_finished v ≡ is_finished w
  finished_agree = ap (leb table_size) lowest_agree

  pub done_agree : AgreeBelow (λ X. X < 64) 32 (done_in v) (done_in w)
  unfolding done_in
  done_agree q X r ql xl rl = ap says_done (agree _ (omega arith))

  module _ (ρs : List Rule) (range : RulesInRange ρs) where
    pub meetings_agree : meetings_done ρs v ≡ meetings_done ρs w
    unfolding meetings_done
    meetings_agree = meetings_cong (λ X. X < 64) (done_in v) (done_in w) 32 ρs (pairs_in_range ρs range) done_agree

    module _ (p : ℕ) (pl : p < table_size) where
      offered_agree : (a A b : ℕ) → a < 32 → b < 32 → offered ρs v p a A b ≡ offered ρs w p a A b
      unfolding offered
      offered_agree a A b al bl =
          least_offer_cong _ _ (λ q X r ql xl rl. rw done_agree)
          (from_state p) (symbol_at p) (to_state p) a A b (omega arith) (omega arith) al bl 0 ρs range

      pub comes_in_agree : (a A b : ℕ) → a < 32 → A < 64 → b < 32 → comes_in ρs v p a A b ≡ comes_in ρs w p a A b
      comes_in_agree a A b al Al bl =
          ap₂ (λ s n. says_absent s && leb 1 n) (agree (table_place a A b) (omega arith)) (offered_agree a A b al bl)

      byte_agree : (i old : ℕ) → i < table_size → byte_after ρs v p i old ≡ byte_after ρs w p i old
      byte_agree i old h =
          ap (λ c. cond (leb table_size i) old (cond (eqb i p) 2 (cond c 1 old)))
          (comes_in_agree (from_state i) (symbol_at i) (to_state i) (omega arith) (omega arith) (omega arith))

      pub reason_agree : (k old : ℕ) → k < reasons_size → reason_after ρs v p k old ≡ reason_after ρs w p k old
      reason_agree k old h =
          ap₂ (λ c n. cond (leb reasons_size k) old (cond c n old))
          (comes_in_agree (reason_state k) (reason_variable k) (to_state k) (omega arith) (omega arith) (omega arith))
          (ap₂ entry_of (offered_agree (reason_state k) (reason_variable k) (to_state k) (omega arith) (omega arith))
          (turn_agree v w agree p))

-- the first bytes of a table and 32,768 reasons; here the bytes are 65,536
abbrev pub first_of : ℕ → Lent → Lent
first_of size m = lent_of (take size m.table) (take reasons_size m.reasons)

abbrev pub first : Lent → Lent
first = first_of table_size

-- the first parts of two changed lists are equal element by element
pub take_alike : (n : ℕ) (f g : ℕ → ℕ → ℕ) (l l' : List ℕ) → min n (length l) ≡ min n (length l') →
    ((k : ℕ) → k < n → f k (get_or l k 0) ≡ g k (get_or l' k 0)) → take n (each f 0 l) ≡ take n (each g 0 l')
take_alike n f g l l' long same =
    ext_get_or 0 _ _ (simp (length-take, length_each) long)
    (λ k h.
    let b = simp (length-take, length_each) at h in
    let kn : k < n = omega arith in
    rw (get_or-take, get_or-take) (get_or_each_0 f l k (omega arith) ∙ same k kn ∙ sym (get_or_each_0 g l' k (omega arith))))

pub said_first : (t : List ℕ) (p : ℕ) → p < table_size → statuses t p ≡ statuses (take table_size t) p
unfolding statuses
said_first t p l = ap byte_status (sym (get_or-take table_size t p 0 l))

pub done_first : (t : List ℕ) (q X r : ℕ) → q < 32 → X < 64 → r < 32 → done_at_lem t q X r ≡ done_at_lem (take table_size t) q X r
done_first t = done_agree (statuses t) _ (said_first t)

pub finished_first : (t : List ℕ) → is_finished (statuses t) ≡ is_finished (statuses (take table_size t))
finished_first t = finished_agree (statuses t) _ (said_first t)

module _ (ρs : List Rule) (range : RulesInRange ρs) where
  taking_first : (p : ℕ) (m : Lent) → p < table_size → first (taking ρs p m) ≡ taking ρs p (first m)
  unfolding taking
  taking_first p m pl =
      let agree = said_first m.table in
      ap₂ lent_of
      (take_alike table_size (byte_after ρs (said m) p) (byte_after ρs (said (first m)) p) m.table m.table refl
      (λ k h. byte_agree (said m) (said (first m)) agree ρs range p pl k (get_or m.table k 0) h)
      ∙ take_each (byte_after ρs (said (first m)) p) 0 table_size m.table)
      (take_alike reasons_size (reason_after ρs (said m) p) (reason_after ρs (said (first m)) p) m.reasons m.reasons
      refl (λ k h. reason_agree (said m) (said (first m)) agree ρs range p pl k (get_or m.reasons k 0) h)
      ∙ take_each (reason_after ρs (said (first m)) p) 0 reasons_size m.reasons)

  step_first : (m : Lent) → first (step ρs m) ≡ step ρs (first m)
  step_first m =
      let same = finished_first m.table in
      cases (is_finished (said m))
      (λ e. ap first (step_finished ρs m e) ∙ sym (step_finished ρs (first m) (sym same ∙ e)))
      (λ e. ap first (step_taking ρs m e)
      ∙ taking_first _ m (leb-false table_size _ e)
      ∙ ap (λ p. taking ρs p (first m)) (lowest_agree (said m) _ (said_first m.table))
      ∙ sym (step_taking ρs (first m) (sym same ∙ e)))

  pub steps_first : (n : ℕ) (m : Lent) → first (steps ρs n m) ≡ steps ρs n (first m)
  unfolding steps
  steps_first zero m = refl
  steps_first (suc n) m = steps_first n (step ρs m) ∙ ap (steps ρs n) (step_first m)

  pub steps_made_first : (n : ℕ) (m : Lent) → steps_made ρs n m ≡ steps_made ρs n (first m)
  unfolding steps_made
  steps_made_first zero m = refl
  steps_made_first (suc n) m =
      ap₂ (λ f k. cond f 0 (suc k)) (finished_first m.table)
      (steps_made_first n (step ρs m) ∙ ap (steps_made ρs n) (step_first m))

  meetings_done_first : (m : Lent) → meetings_done ρs (said m) ≡ meetings_done ρs (said (first m))
  meetings_done_first m = meetings_agree (said m) _ (said_first m.table) ρs range

  pub meetings_made_first : (n : ℕ) (m : Lent) → meetings_made ρs n m ≡ meetings_made ρs n (first m)
  unfolding meetings_made
  meetings_made_first n m =
      ap₂ (λ after before. after - before)
      (meetings_done_first (steps ρs n m) ∙ ap (λ l. meetings_done ρs (said l)) (steps_first n m))
      (meetings_done_first m)

-- a start writes all of the first part, whatever was there
pub started_alike : (J : Job) (m n : Lent) → LongTable m → LongTable n →
    reasons_size ≤ length m.reasons → reasons_size ≤ length n.reasons → first (started J m) ≡ first (started J n)
unfolding started
started_alike J m n tm tn rm rn =
    ap₂ lent_of
    (take_alike table_size (start_byte J) (start_byte J) m.table n.table (omega arith) (λ k h. rw lt-leb))
    (take_alike reasons_size (start_reason J) (start_reason J) m.reasons n.reasons (omega arith) (λ k h. rw lt-leb))
