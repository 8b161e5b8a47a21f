-- The step that takes a place, in bytes: what the bytes say after it is what `status_after` has, the reasons of what
-- comes in are those offered, and nothing changes past the machine's own bytes and numbers. Read through `each`.
-- Assumes nothing.
use Rattle.grammar.proofs.Basics.{◌≡◌, refl, ◌∙◌, sym, ap, true, false, Bool, cond, List, ℕ, ◌<◌, ◌≤◌, arith, eqb, ltb}
use Rattle.grammar.proofs.Basics.{length, ltb-false, ltb-true, le-leb, lt-leb, cases}
use lib.ListN.{get_or-eq_default}
use Rattle.grammar.specs.Rule.{Rule}
use Rattle.machine.specs.Table.{Lent, KeepsRest, table_size, reasons_size, from_state, symbol_at, to_state, Status}
use Rattle.machine.specs.Table.{is_pending_at, is_done_at, byte_status, statuses, entry_of}
use Rattle.machine.specs.Step.{comes_in, offered, status_after, turn_of, taking}
use Rattle.machine.proofs.Tables.Each.{get_or_each_0, changed_keeps_rest}
use Rattle.machine.proofs.Tables.Layouts.{reasons, laid_at}
use Rattle.machine.proofs.Steps.Taken.{Taken, ReasonsTaken, after_done}

module _ (ρs : List Rule) (p : ℕ) (m : Lent) where
  abbrev v : ℕ → Status
  v = statuses m.table

  pub taking_keeps_rest : KeepsRest table_size m (taking ρs p m)
  unfolding taking
  taking_keeps_rest = changed_keeps_rest table_size _ _ m

  pub taking_length : length (taking ρs p m).table ≡ length m.table
  taking_length = taking_keeps_rest.long_table

  pub taking_length_reasons : length (taking ρs p m).reasons ≡ length m.reasons
  taking_length_reasons = taking_keeps_rest.long_reasons

  -- the law that ties bytes to what they say
  pub taking_says :
      (i : ℕ) → i < table_size → i < length m.table → statuses (taking ρs p m).table i ≡ status_after ρs v p i
  unfolding taking statuses
  taking_says i l h =
      rw (get_or_each_0, lt-leb) (says (eqb i p) (comes_in ρs v p (from_state i) (symbol_at i) (to_state i)) _)
    where
      says : (a b : Bool) (old : ℕ) →
          byte_status (cond a 2 (cond b 1 old)) ≡ cond a Status.done (cond b Status.pending (byte_status old))
      says true b old = refl
      says false true old = refl
      says false false old = refl

  -- past the machine's bytes, and past the end of the table, they say what they said
  pub taking_says_outside : (i : ℕ) → length m.table ≤ i → statuses (taking ρs p m).table i ≡ v i
  unfolding statuses
  taking_says_outside i h =
      ap byte_status
      (get_or-eq_default (taking ρs p m).table 0 (omega (arith, taking_length))
      ∙ sym (get_or-eq_default m.table 0 h))

  pub taking_says_past : (i : ℕ) → table_size ≤ i → statuses (taking ρs p m).table i ≡ v i
  unfolding taking statuses
  taking_says_past i l =
      cases (ltb i _)
      (λ h. rw (get_or_each_0 _ m.table i (ltb-true i _ h), le-leb))
      (λ h. taking_says_outside i (ltb-false i _ h))

  -- no place leaves done, in a table of any length
  pub taking_done_kept : (i : ℕ) → is_done_at v i ≡ true → is_done_at (statuses (taking ρs p m).table) i ≡ true
  taking_done_kept i e =
      cases (ltb i (length m.table))
      (λ h. cases (ltb i table_size)
      (λ c. let l = ltb-true i table_size c in rw (taking_says i l (ltb-true i _ h)) (after_done ρs v p i l e))
      (λ l. rw (taking_says_past i (ltb-false i table_size l)) e))
      (λ h. rw (taking_says_outside i (ltb-false i _ h)) e)

  pub taking_taken : p < table_size → table_size ≤ length m.table → is_pending_at v p ≡ true →
      Taken ρs v p (statuses (taking ρs p m).table)
  taking_taken below long pending =
      record { below = below; pending = pending; after = λ i l. taking_says i l (omega arith) }

  pub taking_reasons : reasons_size ≤ length m.reasons → ReasonsTaken ρs v p m.reasons (taking ρs p m).reasons
  unfolding taking
  taking_reasons long q A r =
      laid_at reasons (λ q A r old. cond (comes_in ρs v p q A r) (entry_of (offered ρs v p q A r) (turn_of v p)) old)
      m.reasons q A r long
