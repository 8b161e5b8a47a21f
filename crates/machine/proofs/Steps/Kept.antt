-- A step leaves a byte as it is, or makes it 1 where it was absent or 2 where it was pending; so in any number of steps
-- a byte stays, or comes to say more and is 1 or 2 then. Assumes nothing.
use Rattle.grammar.proofs.Basics.{◌≡◌, refl, ◌∙◌, sym, ap, ◌⊎◌, inl, inr, ⊎_elim, true, false, false≢true, Bool, cond}
use Rattle.grammar.proofs.Basics.{List, ℕ, ◌<◌, ◌≤◌, arith, eqb, leb, ltb, length, get_or, eqb-true, leb-true, leb-false}
use Rattle.grammar.proofs.Basics.{ltb-true, ltb-false, and_left, cases}
use lib.ListN.{get_or-eq_default}
use Rattle.grammar.specs.Rule.{Rule}
use Rattle.machine.specs.Table.{Lent, table_size, table_place, from_state, symbol_at, to_state, Status, byte_status}
use Rattle.machine.specs.Table.{says_absent, says_pending, is_absent_at, status_byte, statuses}
use Rattle.machine.specs.Step.{lowest, is_finished, comes_in, taking}
use Rattle.machine.specs.Advance.{steps}
use Rattle.machine.specs.Theorems.Bytes.{byte_for, rewritten, BytesKept}
use Rattle.machine.proofs.Tables.Each.{each_is, get_or_each_0, rest_at}
use Rattle.machine.proofs.Tables.Lowest.{lowest_is_pending}
use Rattle.machine.proofs.Steps.Taking.{taking_length}
use Rattle.machine.proofs.Steps.StepLaws.{said, steps_keep, steps_keep_rest}

-- how much a status says
abbrev level : Status → ℕ
level Status.absent = 0
level Status.pending = 1
level Status.done = 2

pending_level : (s : Status) → says_pending s ≡ true → level s ≡ 1
pending_level Status.absent e = absurd (false≢true e)
pending_level Status.pending e = refl
pending_level Status.done e = absurd (false≢true e)

absent_level : (s : Status) → says_absent s ≡ true → level s ≡ 0
absent_level Status.absent e = refl
absent_level Status.pending e = absurd (false≢true e)
absent_level Status.done e = absurd (false≢true e)

level_absent : (s : Status) → level s ≡ 0 → says_absent s ≡ true
level_absent Status.absent e = refl
level_absent Status.pending e = absurd (omega arith)
level_absent Status.done e = absurd (omega arith)

-- a byte that stayed, or that says more than it did
abbrev Moved : ℕ → ℕ → Type 0
Moved old new =
    (new ≡ old) ⊎ ((level (byte_status old) < level (byte_status new)) × (new ≡ status_byte (byte_status new)))

moved_then : (a b c : ℕ) → Moved a b → Moved b c → Moved a c
moved_then a b c f g =
    ⊎_elim
    (λ e. rw e at g)
    (λ u. ⊎_elim (λ e. rw e f) (λ w. inr (omega (arith, u.0, w.0), w.1)) g) f

moved_byte : (past taken comes : Bool) (old : ℕ) → (taken ≡ true → says_pending (byte_status old) ≡ true) →
    (comes ≡ true → says_absent (byte_status old) ≡ true) →
    Moved old (cond past old (cond taken 2 (cond comes 1 old)))
moved_byte true taken comes old was absent = inl refl
moved_byte false true comes old was absent =
    inr (omega (arith, pending_level (byte_status old) (was refl)), refl)
moved_byte false false true old was absent =
    inr (omega (arith, absent_level (byte_status old) (absent refl)), refl)
moved_byte false false false old was absent = inl refl

-- the byte that a table rewritten to say the new status has
same_byte : (s : Status) (old : ℕ) → byte_status old ≡ s → byte_for s old ≡ old
same_byte Status.absent old e = rw e
same_byte Status.pending old e = rw e
same_byte Status.done old e = rw e

new_byte : (s o : Status) (old : ℕ) → byte_status old ≡ o → level o < level s → byte_for s old ≡ status_byte s
new_byte Status.absent o old e l = absurd (omega arith)
new_byte Status.pending Status.absent old e l = rw e
new_byte Status.pending Status.pending old e l = absurd (omega arith)
new_byte Status.pending Status.done old e l = absurd (omega arith)
new_byte Status.done Status.absent old e l = rw e
new_byte Status.done Status.pending old e l = rw e
new_byte Status.done Status.done old e l = absurd (omega arith)

moved_rewritten : (old new : ℕ) → Moved old new → byte_for (byte_status new) old ≡ new
moved_rewritten old new m =
    ⊎_elim
    (λ e. rw e (same_byte (byte_status old) old refl))
    (λ u. new_byte (byte_status new) (byte_status old) old refl u.0 ∙ sym u.1) m

moved_there : (old new : ℕ) → Moved old new → says_absent (byte_status new) ≡ true → says_absent (byte_status old) ≡ true
moved_there old new m e =
    ⊎_elim
    (λ same. rw same at e)
    (λ u. level_absent (byte_status old) (omega (arith, u.0, absent_level (byte_status new) e))) m

-- all bytes of a table
abbrev AllMoved : List ℕ → List ℕ → Type 0
AllMoved before after = (i : ℕ) → Moved (get_or before i 0) (get_or after i 0)

taking_moves : (ρs : List Rule) (m : Lent) → is_finished (said m) ≡ false →
    AllMoved m.table (taking ρs (lowest (said m)) m).table
unfolding taking statuses
taking_moves ρs m unfinished i =
    cases (ltb i (length m.table))
    (λ h.
    rw (get_or_each_0 _ m.table i (ltb-true i _ h))
    (cases (leb table_size i)
    (λ e. rw e (inl refl))
    (λ e.
    let l : i < table_size = leb-false table_size i e in
    let back : table_place (from_state i) (symbol_at i) (to_state i) ≡ i = omega arith in
    moved_byte (leb table_size i) (eqb i (lowest (said m)))
    (comes_in ρs (said m) (lowest (said m)) (from_state i) (symbol_at i) (to_state i)) (get_or m.table i 0)
    (λ t. rw (eqb-true i _ t) (lowest_is_pending (said m) unfinished))
    (λ t. ap (is_absent_at (said m)) (sym back) ∙ and_left _ _ t))))
    (λ h.
    let past : length m.table ≤ i = ltb-false i _ h in
    inl
    (get_or-eq_default (taking ρs (lowest (said m)) m).table 0 (omega (arith, taking_length ρs (lowest (said m)) m))
    ∙ sym (get_or-eq_default m.table 0 past)))

steps_move : (ρs : List Rule) (m : Lent) (n : ℕ) → AllMoved m.table (steps ρs n m).table
steps_move ρs m n =
    steps_keep (λ m'. AllMoved m.table m'.table) ρs
    (λ m' unfinished moved i. moved_then _ _ _ (moved i) (taking_moves ρs m' unfinished i)) n m (λ i. inl refl)

-- bytes below 3 stay below
small_byte : (s : Status) → status_byte s < 3
small_byte Status.absent = omega arith
small_byte Status.pending = omega arith
small_byte Status.done = omega arith

pub steps_small : (ρs : List Rule) (m : Lent) (n p : ℕ) → get_or m.table p 0 < 3 → get_or (steps ρs n m).table p 0 < 3
steps_small ρs m n p l =
    ⊎_elim (λ e. rw e l) (λ u. rw u.1 (small_byte (byte_status (get_or (steps ρs n m).table p 0)))) (steps_move ρs m n p)

pub steps_kept : (ρs : List Rule) (m : Lent) (n : ℕ) → BytesKept m.table (steps ρs n m).table
unfolding rewritten statuses
steps_kept ρs m n =
    let kept = steps_keep_rest ρs n m in
    record {
      bytes = sym
          (each_is _ m.table _ (sym kept.long_table)
          (λ p h. cases (leb table_size p)
          (λ e. rw e (past p (leb-true table_size p e)))
          (λ e. rw e (moved_rewritten _ _ (steps_move ρs m n p)))));
      there = λ p e. moved_there _ _ (steps_move ρs m n p) e;
    }
  where
    past : (p : ℕ) → table_size ≤ p → get_or m.table p 0 ≡ get_or (steps ρs n m).table p 0
    past p l = sym (rest_at table_size m.table (steps ρs n m).table (steps_keep_rest ρs n m).rest_table p l)
