-- The turn of what a step adds, and the done places: one more than before the step, as many as after it, and fewer
-- than all where a place is absent. Assumes nothing.
use Rattle.grammar.proofs.Basics.{◌≡◌, ◌∙◌, sym, ap, true, false, cond, ℕ, ◌<◌, suc, arith, eqb, ne_eqb, eq-eqb}
use Rattle.grammar.proofs.Basics.{true_and_false, List}
use Rattle.grammar.specs.Rule.{Rule}
use Rattle.grammar.proofs.Counting.{count_one_more, count_cong, count_bound}
use Rattle.machine.specs.Table.{table_size, Status, Statuses, says_done, is_absent_at, is_pending_at, is_done_at}
use Rattle.machine.specs.Table.{done_count_lem}
use Rattle.machine.specs.Step.{turn_of}
use Rattle.machine.proofs.Tables.Statuses.{pending_not_done, pending_not_absent, absent_not_done}
use Rattle.machine.proofs.Steps.Taken.{Taken, taken_done_count}

-- a table with a place that is not done has fewer done places than places
pub done_count_below : (v : Statuses) (i : ℕ) → i < table_size → is_done_at v i ≡ false → done_count_lem v < table_size
unfolding done_count_lem
done_count_below v i l e =
    omega (
      arith,
      count_one_more (is_done_at v) (λ j. says_done (cond (eqb j i) Status.done (v j))) table_size i l e (rw eq-eqb)
          (λ j m d. rw (ne_eqb j i d)),
      count_bound (λ j. says_done (cond (eqb j i) Status.done (v j))) table_size,
    )

-- the turn depends on what is said of the places below 65,536
pub turn_agree : (v w : Statuses) → ((p : ℕ) → p < table_size → v p ≡ w p) → (p : ℕ) → turn_of v p ≡ turn_of w p
unfolding turn_of done_count_lem
turn_agree v w agree p =
    count_cong _ _ table_size (λ i l. ap (λ s. says_done (cond (eqb i p) Status.done s)) (agree i l))

module _ (v : Statuses) (p : ℕ) (below : p < table_size) (pending : is_pending_at v p ≡ true) where
  pub turn_next : turn_of v p ≡ suc (done_count_lem v)
  unfolding turn_of done_count_lem
  turn_next =
      count_one_more (is_done_at v) (λ i. says_done (cond (eqb i p) Status.done (v i))) table_size p below
      (pending_not_done (v p) pending) (rw eq-eqb) (λ j m d. rw (ne_eqb j p d))

  -- where something is absent, so that it may come in, the turn is at most 65,535
  pub turn_below : (i : ℕ) → i < table_size → is_absent_at v i ≡ true → turn_of v p < table_size
  unfolding turn_of
  turn_below i l absent =
      done_count_below (λ j. cond (eqb j p) Status.done (v j)) i l
      (rw (ne_eqb i p (λ e. true_and_false absent (ap (is_absent_at v) e ∙ pending_not_absent (v p) pending)))
      (absent_not_done (v i) absent))

-- it is the number of done places after the step
pub turn_after : {ρs : List Rule} {v : Statuses} {p : ℕ} {v' : Statuses} → Taken ρs v p v' → turn_of v p ≡ done_count_lem v'
turn_after {v = v} {p = p} taken =
    turn_next v p taken.below taken.pending ∙ sym (taken_done_count taken)
