-- What a step makes of a table, however the table is written: the place taken is done, nothing leaves done or becomes
-- absent, and what comes in was absent and offered. Each law is a case of `status_after`. Assumes nothing.
use Rattle.grammar.proofs.Basics.{◌≡◌, ◌∙◌, sym, ap, inl, inr, ◌⊎◌, true, false, Bool, ◌&&◌, cond, List, ℕ, ◌<◌, ◌≤◌}
use Rattle.grammar.proofs.Basics.{suc, arith, eqb, leb, get_or, eq-eqb, ne_eqb, eqb-true, le-leb, leb-true, cases}
use Rattle.grammar.proofs.Basics.{and_left, true_and_false}
use Rattle.grammar.specs.Rule.{Rule}
use Rattle.grammar.proofs.Counting.{count_one_more}
use Rattle.machine.specs.Table.{table_size, table_place, from_state, symbol_at, to_state, reason_place_lem, Status, Statuses}
use Rattle.machine.specs.Table.{says_absent, says_done, is_absent_at, is_pending_at, is_done_at, done_count_lem, entry_of}
use Rattle.machine.specs.Step.{offered, comes_in, status_after, turn_of}
use Rattle.machine.proofs.Tables.Places.{place_of_parts, from_state_place, symbol_at_place, to_state_place}
use Rattle.machine.proofs.Tables.Statuses.{absent_not_done, done_not_absent, pending_not_done}

-- the step that takes the pending place p of v leaves v'
pub record Taken (ρs : List Rule) (v : Statuses) (p : ℕ) (v' : Statuses) : Type 0 where
  pub below : p < table_size
  pub pending : is_pending_at v p ≡ true
  pub after : (i : ℕ) → i < table_size → v' i ≡ status_after ρs v p i

-- and these reasons out of those before
abbrev pub ReasonsTaken : List Rule → Statuses → ℕ → List ℕ → List ℕ → Type 0
ReasonsTaken ρs v p reasons reasons' =
    (q A r : ℕ) → q < 32 → A < 32 → r < 32 →
    get_or reasons' (reason_place_lem q A r) 0
    ≡ cond (comes_in ρs v p q A r) (entry_of (offered ρs v p q A r) (turn_of v p)) (get_or reasons (reason_place_lem q A r) 0)

-- a status after the step, by cases
module _ (s : Status) (is-taken offers : Bool) where
  abbrev changed : Status
  changed = cond is-taken Status.done (cond (says_absent s && offers) Status.pending s)

  done_stays : says_done s ≡ true → says_done changed ≡ true
  done_stays e = cases is-taken (λ f. rw f) (λ f. rw (f, done_not_absent) e)

  there_stays : says_absent s ≡ false → says_absent changed ≡ false
  there_stays e = cases is-taken (λ f. rw f) (λ f. rw (f, e) e)

  done_same : is-taken ≡ false → says_done changed ≡ says_done s
  done_same f =
      cases (says_absent s && offers)
      (λ g. rw (f, g) (sym (absent_not_done s (and_left (says_absent s) offers g))))
      (λ g. rw (f, g))

  offered_there : offers ≡ true → says_absent changed ≡ false
  offered_there o = cases is-taken (λ f. rw f) (λ f. cases (says_absent s) (λ a. rw (f, a, o)) (λ a. rw (f, a) a))

  there_from : says_absent changed ≡ false → is-taken ≡ false → says_absent s ≡ true → offers ≡ true
  there_from e f a = cases offers (λ o. o) (λ o. true_and_false a (rw (f, a, o) at e))

-- done stays done
pub after_done : (ρs : List Rule) (v : Statuses) (p i : ℕ) → i < table_size → is_done_at v i ≡ true →
    says_done (status_after ρs v p i) ≡ true
after_done ρs v p i l e = rw place_of_parts (done_stays (v i) (eqb i p) _ e)

module _ {ρs : List Rule} {v : Statuses} {p : ℕ} {v' : Statuses} (taken : Taken ρs v p v') where
  abbrev offers_at : ℕ → Bool
  offers_at i = leb 1 (offered ρs v p (from_state i) (symbol_at i) (to_state i))

  -- by the place itself
  after_at : (i : ℕ) → i < table_size → v' i ≡ changed (v i) (eqb i p) (offers_at i)
  after_at i l = rw place_of_parts at (taken.after i l)

  pub done_kept : (i : ℕ) → i < table_size → is_done_at v i ≡ true → is_done_at v' i ≡ true
  done_kept i l e = rw (taken.after i l) (after_done ρs v p i l e)

  pub there_kept : (i : ℕ) → i < table_size → is_absent_at v i ≡ false → is_absent_at v' i ≡ false
  there_kept i l e = rw after_at (there_stays (v i) (eqb i p) (offers_at i) e)

  pub done_others : (i : ℕ) → i < table_size → (i ≡ p → ⊥) → is_done_at v' i ≡ is_done_at v i
  done_others i l d = ap says_done (after_at i l) ∙ done_same (v i) _ (offers_at i) (ne_eqb i p d)

  pub taken_done : is_done_at v' p ≡ true
  taken_done = rw (after_at p taken.below, eq-eqb)

  -- by transitions
  module _ (q X r : ℕ) (ql : q < 32) (xl : X < 64) (rl : r < 32) where
    at_transition : v' (table_place q X r) ≡ changed (v (table_place q X r)) (eqb (table_place q X r) p) (leb 1 (offered ρs v p q X r))
    at_transition = rw (from_state_place, symbol_at_place, to_state_place) at (after_at (table_place q X r) (omega arith))

    pub offered_comes : 1 ≤ offered ρs v p q X r → is_absent_at v' (table_place q X r) ≡ false
    offered_comes o = rw at_transition (offered_there (v _) (eqb _ p) _ (le-leb 1 _ o))

    -- what is there after the step was taken, was there, or came in
    pub comes_from : is_absent_at v' (table_place q X r) ≡ false →
        (table_place q X r ≡ p) ⊎ ((is_absent_at v (table_place q X r) ≡ false) ⊎ (1 ≤ offered ρs v p q X r))
    comes_from e =
        cases (eqb _ p)
        (λ f. inl (eqb-true _ p f))
        (λ f. cases (is_absent_at v _)
        (λ a. inr (inr (leb-true 1 _ (there_from (v _) _ _ (rw at_transition at e) f a))))
        (λ a. inr (inl a)))

  pub taken_done_count : done_count_lem v' ≡ suc (done_count_lem v)
  unfolding done_count_lem
  taken_done_count =
      count_one_more (is_done_at v) (is_done_at v') table_size p taken.below (pending_not_done (v p) taken.pending)
      taken_done done_others
