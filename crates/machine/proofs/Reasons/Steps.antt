-- From a start, reasons fit. A step gives a reason to what was absent: its premises are there before, so their turns
-- are at most the done count then, and what the step brings in gets the done count after. Assumes nothing.
use Rattle.grammar.proofs.Basics.{◌≡◌, refl, ◌∙◌, sym, ap, ⊎_elim, true, false, List, ℕ, ◌<◌, ◌≤◌, arith, eqb, leb}
use Rattle.grammar.proofs.Basics.{get_or, eqb-true, eqb-false, le-leb, leb-true, leb-false, lt-leb, cases}
use Rattle.grammar.proofs.Basics.{true_and_false, not_true_false, not_false_true, and_split, and_both}
use Rattle.grammar.specs.Rule.{Rule, empty}
use Rattle.grammar.specs.Automaton.{Holds}
use Rattle.grammar.proofs.Meetings.{Test}
use Rattle.job.specs.Job.{Job}
use Rattle.machine.specs.Table.{table_size, table_place, from_state, symbol_at, to_state, reason_place_lem, Statuses}
use Rattle.machine.specs.Table.{is_absent_at, done_in, done_count_lem, reason_of, reason_in, turn_at_lem}
use Rattle.machine.specs.Step.{offered, done_with, comes_in}
use Rattle.job.specs.Theorems.InRange.{InRange, RuleInRange}
use Rattle.machine.specs.Theorems.Reasons.{RuleAt, Premise, Reason, ReasonsFit}
use Rattle.machine.specs.Theorems.Turns.{Added}
use Rattle.machine.proofs.Tables.Places.{from_state_below, by_parts}
use Rattle.machine.proofs.Tables.Statuses.{done_not_absent, pending_not_absent}
use Rattle.machine.proofs.Offers.LeastOffer.{Consequent, by_unit, as_front, as_back, least_offer_fits}
use Rattle.machine.proofs.Offers.LeastOffer.{at_rank}
use Rattle.machine.proofs.Steps.Taken.{Taken, ReasonsTaken, done_kept, done_others, there_kept}
use Rattle.machine.proofs.Steps.Taken.{offered_comes, comes_from, taken_done_count}
use Rattle.machine.proofs.Growing.Invariant.{Grown, with_done_after, with_there, taken_with}
use Rattle.machine.proofs.Reasons.Turns.{turn_at, turn_kept, taken_added}

-- what is there after a step and was not before came in
module _ {ρs : List Rule} {v : Statuses} {p : ℕ} {v' : Statuses} (taken : Taken ρs v p v') where
  taken_there : is_absent_at v p ≡ false
  taken_there = pending_not_absent (v p) taken.pending

  new_comes : (q X r : ℕ) → q < 32 → X < 64 → r < 32 → is_absent_at v (table_place q X r) ≡ true →
      is_absent_at v' (table_place q X r) ≡ false → comes_in ρs v p q X r ≡ true
  new_comes q X r ql xl rl new there =
      and_both _ _ new
      (⊎_elim (λ e. true_and_false new (ap (is_absent_at v) e ∙ taken_there))
      (⊎_elim (λ e. true_and_false new e) (le-leb 1 _)) (comes_from taken q X r ql xl rl there))

module _ (J : Job) (range : InRange J) where
  rule_range : {rank : ℕ} {ρ : Rule} → RuleAt J.rules rank ρ → RuleInRange ρ
  rule_range {rank} {ρ} rule = range.rules ρ (rw rule.1 at (at_rank J.rules rank (empty 0) rule.0))

  -- a reason stays one where the done transitions stay, and their turns
  module _ (done done' : Test) (turn turn' : ℕ → ℕ)
      (stays :
      (q X r : ℕ) → q < 32 → X < 64 → r < 32 → done q X r ≡ true →
      (done' q X r ≡ true) × (turn' (table_place q X r) ≡ turn (table_place q X r))) where
    premise_carries : {above q X r : ℕ} → q < 32 → X < 64 → r < 32 → turn' above ≡ turn above →
        Premise done turn above q X r → Premise done' turn' above q X r
    premise_carries {above} {q} {X} {r} ql xl rl same a =
        let s = stays q X r ql xl rl a.is_done_lem' in
        record { is_done_lem' = s.0; earlier = omega (arith, a.earlier) }

    pub reason_carries : (q A r n : ℕ) → q < 32 → r < 32 → turn' (table_place q A r) ≡ turn (table_place q A r) →
        Reason J done turn q A r n → Reason J done' turn' q A r n
    reason_carries q A r n ql rl same (Reason.by_given g e) = Reason.by_given g e
    reason_carries q A r n ql rl same (Reason.by_empty rank g e rule s l) = Reason.by_empty rank g e rule s l
    reason_carries q A r n ql rl same (Reason.by_unit rank X g e rule a) =
        Reason.by_unit rank X g e rule (premise_carries ql (rule_range rule).1 rl same a)
    reason_carries q A r n ql rl same (Reason.by_pair rank X Y middle g e l rule a b) =
        let (al, xl, yl) = rule_range rule in
        Reason.by_pair rank X Y middle g e l rule (premise_carries ql xl l same a) (premise_carries l yl rl same b)

  -- one step, which takes the pending place p
  module _ {v : Statuses} {p : ℕ} {v' : Statuses} (taken : Taken J.rules v p v')
      (grown : Grown J.rules (Holds J.given) J.states v) {reasons : List ℕ} (fit : ReasonsFit J v reasons)
      (reasons' : List ℕ) (reasons-taken : ReasonsTaken J.rules v p reasons reasons') where
    -- what was there before keeps its turn
    same_turn : (i : ℕ) → i < table_size → is_absent_at v i ≡ false → turn_at_lem reasons' i ≡ turn_at_lem reasons i
    same_turn = turn_kept J.rules v p reasons reasons' reasons-taken

    -- which is below the done count after the step
    old_below : (i : ℕ) → i < table_size → is_absent_at v i ≡ false → turn_at_lem reasons' i < done_count_lem v'
    old_below i l old = omega (arith, same_turn i l old, fit.bounded i l old, taken_done_count taken)

    -- a premise of what comes in: done after the step, and there before
    new_premise : (above : ℕ) → turn_at_lem reasons' above ≡ done_count_lem v' → (q X r : ℕ) → q < 32 → X < 64 → r < 32 →
        done_with v p q X r ≡ true → Premise (done_in v') (turn_at_lem reasons') above q X r
    new_premise above turn q X r ql xl rl e =
        record {
          is_done_lem' = with_done_after taken q X r ql xl rl e;
          earlier = rw turn (old_below (table_place q X r) (omega arith) (with_there taken q X r e));
        }

    -- a reason of what comes in, by the rule that offers it
    new_reason : {ρ : Rule} {a A b middle : ℕ} (rank n : ℕ) → a < 32 → b < 32 →
        turn_at_lem reasons' (table_place a A b) ≡ done_count_lem v' → J.given a A b ≡ false → RuleAt J.rules rank ρ →
        n ≡ reason_of rank middle → Consequent (done_with v p) (from_state p) (symbol_at p) (to_state p) ρ a A b middle →
        Reason J (done_in v') (turn_at_lem reasons') a A b n
    new_reason rank n al bl turn g rule e by_unit =
        Reason.by_unit rank (symbol_at p) g e rule (new_premise _ turn _ _ _ al (omega arith) bl (taken_with taken))
    new_reason rank n al bl turn g rule e (as_front {Z = Z} d) =
        Reason.by_pair rank (symbol_at p) Z (to_state p) g e (omega arith) rule
        (new_premise _ turn _ _ _ al (omega arith) (omega arith) (taken_with taken))
        (new_premise _ turn _ _ _ (omega arith) (rule_range rule).2 bl d)
    new_reason rank n al bl turn g rule e (as_back {Y = Y} d) =
        let ql = from_state_below p taken.below in
        Reason.by_pair rank Y (symbol_at p) (from_state p) g e ql rule
        (new_premise _ turn _ _ _ al (rule_range rule).1 ql d)
        (new_premise _ turn _ _ _ ql (omega arith) bl (taken_with taken))

    -- what comes in has the done count after the step as its turn, and a reason that fits
    module _ (q A r : ℕ) (ql : q < 32) (al : A < 32) (rl : r < 32) (comes : comes_in J.rules v p q A r ≡ true) where
      added : Added (get_or reasons' (reason_place_lem q A r) 0) (offered J.rules v p q A r) (done_count_lem v')
      added = taken_added J.rules v p reasons reasons' reasons-taken taken range.rule_count q A r ql al rl comes

      added_turn : turn_at_lem reasons' (table_place q A r) ≡ done_count_lem v'
      added_turn = turn_at reasons' q A r (omega arith) rl ∙ rw lt-leb added.turn_is

      added_reason : Reason J (done_in v') (turn_at_lem reasons') q A r (reason_in (get_or reasons' (reason_place_lem q A r) 0))
      unfolding offered
      added_reason =
          let (new, o) = (and_split (is_absent_at v (table_place q A r)) _).0 comes in
          let f =
          least_offer_fits _ (from_state p) (symbol_at p) (to_state p) 0 J.rules (empty 0) q A r (leb-true 1 _ o) in
          new_reason f.0 _ ql rl added_turn
          (not_true_false _ (λ d. true_and_false new (grown.has_given q A r ql (omega arith) rl d)))
          (f.2, refl) (added.reason_is ∙ f.4 ∙ omega arith) f.3

    pub taken_reasons_fit : ReasonsFit J v' reasons'
    unfolding done_in
    taken_reasons_fit =
        record {
          bounded = by_parts (λ i. is_absent_at v' i ≡ false → turn_at_lem reasons' i ≤ done_count_lem v')
              (λ q X r ql xl rl there. cases (is_absent_at v (table_place q X r))
              (λ new. cases (leb 32 X)
              (λ t. rw (turn_at, t) (omega arith))
              (λ t. omega (
                arith,
                added_turn q X r ql (leb-false 32 X t) rl (new_comes taken q X r ql xl rl new there),
              )))
              (λ old. omega (arith, old_below (table_place q X r) (omega arith) old)));
          done_bounded = λ i l e. old_below i l
              (cases (eqb i p)
              (λ f. ap (is_absent_at v) (eqb-true _ _ f) ∙ taken_there taken)
              (λ f. done_not_absent (v i) (sym (done_others taken i l (eqb-false _ _ f)) ∙ e)));
          fits = λ q A r ql al rl there. cases (is_absent_at v (table_place q A r))
              (λ new. added_reason q A r ql al rl (new_comes taken q A r ql (omega arith) rl new there))
              -- what was there before keeps its reason
              (λ old. rw (reasons-taken, old)
              (reason_carries (done_in v) (done_in v') (turn_at_lem reasons) (turn_at_lem reasons')
              (λ q X r ql xl rl d. (
                done_kept taken (table_place q X r) (omega arith) d,
                same_turn (table_place q X r) (omega arith) (done_not_absent (v (table_place q X r)) d),
              ))
              q A r (reason_in (get_or reasons (reason_place_lem q A r) 0)) ql rl (same_turn (table_place q A r) (omega arith) old)
              (fit.fits q A r ql al rl old)));
          none = λ q A r ql al rl gone.
              let before : is_absent_at v (table_place q A r) ≡ true =
              not_false_true _ (λ e. true_and_false gone (there_kept taken (table_place q A r) (omega arith) e)) in
              let unoffered : leb 1 (offered J.rules v p q A r) ≡ false = not_true_false _
              (λ o. true_and_false gone (offered_comes taken q A r ql (omega arith) rl (leb-true _ _ o))) in
              rw (reasons-taken, before, unoffered) (fit.none q A r ql al rl before);
        }
