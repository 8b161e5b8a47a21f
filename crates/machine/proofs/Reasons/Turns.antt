-- What a step puts among the reasons is read back: an offered reason is below 65,536, as a rule's rank is below 256
-- and a middle state below 32, so an entry's remainder is the reason and its quotient the turn. Assumes nothing.
use Rattle.grammar.proofs.Basics.{◌≡◌, ◌∙◌, true, false, cond, List, ℕ, ◌<◌, ◌≤◌, arith, leb, length, get_or, leb-true}
use Rattle.grammar.proofs.Basics.{leb-false, cases, and_left}
use Rattle.grammar.specs.Rule.{Rule, empty}
use Rattle.grammar.proofs.Meetings.{Test}
use Rattle.machine.specs.Table.{table_size, table_place, from_state, symbol_at, to_state, reason_place_lem, Statuses}
use Rattle.machine.specs.Table.{is_absent_at, done_count_lem, turn_in, turn_at_lem}
use Rattle.machine.specs.Step.{lowest, offered, comes_in, taking}
use Rattle.machine.specs.Theorems.Turns.{Added, StepTurns}
use Rattle.machine.proofs.Tables.Places.{from_state_below, to_state_below, from_state_place, symbol_at_place}
use Rattle.machine.proofs.Tables.Places.{to_state_place, by_parts}
use Rattle.machine.proofs.Offers.LeastOffer.{Consequent, by_unit, as_front, as_back, least_offer_fits}
use Rattle.machine.proofs.Steps.Taken.{Taken, ReasonsTaken}
use Rattle.machine.proofs.Steps.Turns.{turn_below, turn_after}
use Rattle.machine.proofs.Steps.Taking.{taking_reasons}
use Rattle.machine.proofs.Steps.StepLaws.{said, step_taking, lowest_taken}

-- the turn at a transition's place
pub turn_at : (reasons : List ℕ) (q X r : ℕ) → X < 64 → r < 32 →
    turn_at_lem reasons (table_place q X r) ≡ cond (leb 32 X) 0 (turn_in (get_or reasons (reason_place_lem q X r) 0))
turn_at reasons q X r xl rl = rw (from_state_place, symbol_at_place, to_state_place)

-- a middle is a state of the taken transition, or 0
middle_below : {done : Test} {q X r : ℕ} {ρ : Rule} {a A b middle : ℕ} → q < 32 → r < 32 →
    Consequent done q X r ρ a A b middle → middle < 32
middle_below ql rl by_unit = omega arith
middle_below ql rl (as_front d) = rl
middle_below ql rl (as_back d) = ql

pub offered_below : (ρs : List Rule) (v : Statuses) (p a A b : ℕ) → length ρs ≤ 256 → p < table_size →
    offered ρs v p a A b < 65536
unfolding offered
offered_below ρs v p a A b few below =
    cases (leb 1 (offered ρs v p a A b))
    (λ e.
    let f = least_offer_fits _ (from_state p) (symbol_at p) (to_state p) 0 ρs (empty 0) a A b (leb-true 1 _ e) in
    omega (arith, f.2, f.4, middle_below (from_state_below p below) (to_state_below p) f.3))
    (λ e. omega (arith, leb-false 1 (offered ρs v p a A b) e))

-- one step, which takes the pending place p
module _ (ρs : List Rule) (v : Statuses) (p : ℕ) (reasons reasons' : List ℕ)
    (reasons-taken : ReasonsTaken ρs v p reasons reasons') where
  -- what was there before keeps its turn
  pub turn_kept : (i : ℕ) → i < table_size → is_absent_at v i ≡ false → turn_at_lem reasons' i ≡ turn_at_lem reasons i
  turn_kept =
      by_parts (λ i. is_absent_at v i ≡ false → turn_at_lem reasons' i ≡ turn_at_lem reasons i)
      (λ q X r ql xl rl old. rw (turn_at reasons', turn_at reasons)
      (cases (leb 32 X) (λ t. rw t) (λ t. rw (t, reasons-taken q X r ql (leb-false 32 X t) rl, old))))

  -- what comes in has the reason offered, and the done count after the step as its turn
  pub taken_added : {v' : Statuses} → Taken ρs v p v' → length ρs ≤ 256 → (q A r : ℕ) → q < 32 → A < 32 → r < 32 →
      comes_in ρs v p q A r ≡ true →
      Added (get_or reasons' (reason_place_lem q A r) 0) (offered ρs v p q A r) (done_count_lem v')
  taken_added taken few q A r ql al rl comes =
      let small = offered_below ρs v p q A r few taken.below in
      let below = turn_below v p taken.below taken.pending (table_place q A r) (omega arith) (and_left _ _ comes) in
      rw (reasons-taken, comes)
      record { reason_is = omega arith; turn_is = omega arith ∙ turn_after taken; at_most = omega arith }

-- so it is on any table
pub step_turns_lem : StepTurns
unfolding StepTurns
step_turns_lem ρs few m long unfinished =
    let p = lowest (said m) in
    rw step_taking
    (taken_added ρs (said m) p m.reasons (taking ρs p m).reasons (taking_reasons ρs p m long.1)
    (lowest_taken ρs m long.0 unfinished) few)
