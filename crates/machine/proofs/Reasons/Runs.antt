-- The reasons of a run from a start fit: start gives reasons without premises, all of turn 0, and each step keeps them
-- fitting. Assumes nothing.
use Rattle.grammar.proofs.Basics.{◌≡◌, ◌∙◌, sym, ◌&&◌, ◌||◌, List, ℕ, ◌<◌, ◌≤◌, arith, eqb, leb, ltb, length, get_or}
use Rattle.grammar.proofs.Basics.{eq-eqb, lt-ltb, leb-true, leb-false, not-true, cases, or_left, true_and_false}
use Rattle.grammar.specs.Rule.{Rule, empty}
use Rattle.grammar.specs.Automaton.{Holds}
use Rattle.job.specs.Job.{Job}
use Rattle.machine.specs.Table.{Lent, table_size, reasons_size, reason_place_lem, reason_in, turn_in, turn_at_lem}
use Rattle.machine.specs.Start.{empty_reason, is_empty_at, started}
use Rattle.machine.specs.Step.{lowest}
use Rattle.machine.specs.Advance.{steps}
use Rattle.job.specs.Theorems.InRange.{InRange}
use Rattle.machine.specs.Theorems.Reasons.{Reason, ReasonsFit}
use Rattle.machine.specs.Theorems.Steps.{LongTable}
use Rattle.machine.proofs.Tables.Places.{by_parts}
use Rattle.machine.proofs.Starts.EmptyRules.{empty_reason_fits}
use Rattle.machine.proofs.Steps.Taking.{taking_length, taking_length_reasons, taking_reasons}
use Rattle.machine.proofs.Steps.StepLaws.{said, steps_keep, lowest_taken}
use Rattle.machine.proofs.Growing.Invariant.{Grown, taken_grown}
use Rattle.machine.proofs.Starts.StartLaws.{started_length, started_length_reasons, started_reason}
use Rattle.machine.proofs.Starts.StartLaws.{started_absent, started_there, started_not_done, started_grown}
use Rattle.machine.proofs.Starts.StartLaws.{empty_at}
use Rattle.machine.proofs.Reasons.Turns.{turn_at}
use Rattle.machine.proofs.Reasons.Steps.{taken_reasons_fit}

-- the reason of an E rule has its rank, below 256
empty_reason_below : (A : ℕ) (ρs : List Rule) → length ρs ≤ 256 → empty_reason A 0 ρs < 65536
empty_reason_below A ρs few =
    cases (leb 1 (empty_reason A 0 ρs))
    (λ e. let f = empty_reason_fits A 0 ρs (empty 0) (leb-true 1 _ e) in omega (arith, f.1, f.3))
    (λ e. omega (arith, leb-false 1 (empty_reason A 0 ρs) e))

-- what the invariants need of the lent memory, and what steps keep of it
pub record Fitting (J : Job) (m : Lent) : Type 0 where
  pub long : LongTable m
  pub long_reasons : reasons_size ≤ length m.reasons
  pub grown : Grown J.rules (Holds J.given) J.states (said m)
  pub fit : ReasonsFit J (said m) m.reasons

pub steps_reasons_fit : (J : Job) → InRange J → (n : ℕ) (m : Lent) → Fitting J m → Fitting J (steps J.rules n m)
steps_reasons_fit J range =
    steps_keep (Fitting J) J.rules
    (λ m e h.
    let p = lowest (said m) in
    let taken = lowest_taken J.rules m h.long e in
    record {
      long = omega (arith, h.long, taking_length J.rules p m);
      long_reasons = omega (arith, h.long_reasons, taking_length_reasons J.rules p m);
      grown = taken_grown taken _ J.states range.rules h.grown;
      fit = taken_reasons_fit J range taken h.grown h.fit _ (taking_reasons J.rules p m h.long_reasons);
    })

-- a start, and any number of steps after it
module _ (J : Job) (range : InRange J) (m : Lent) (long : LongTable m)
    (long_reasons : reasons_size ≤ length m.reasons) where
  -- what start gives is a reason alone, so its turn is 0
  start_below : (q A r : ℕ) → q < 32 → A < 32 → r < 32 → get_or (started J m).reasons (reason_place_lem q A r) 0 < 65536
  start_below q A r ql al rl =
      rw started_reason
      (cases (J.given q A r)
      (λ g. rw g (omega arith))
      (λ g. cases (eqb q r && ltb q J.states)
      (λ b. rw (g, b) (empty_reason_below A J.rules range.rule_count))
      (λ b. rw (g, b) (omega arith))))

  pub start_turn_in : (q A r : ℕ) → q < 32 → A < 32 → r < 32 →
      turn_in (get_or (started J m).reasons (reason_place_lem q A r) 0) ≡ 0
  start_turn_in q A r ql al rl = omega (arith, start_below q A r ql al rl)

  start_turn : (i : ℕ) → i < table_size → turn_at_lem (started J m).reasons i ≡ 0
  start_turn =
      by_parts (λ i. turn_at_lem (started J m).reasons i ≡ 0)
      (λ q X r ql xl rl. rw turn_at
      (cases (leb 32 X) (λ t. rw t) (λ t. rw t (start_turn_in q X r ql (leb-false 32 X t) rl))))

  start_reason_lem : (q A r : ℕ) → q < 32 → A < 32 → r < 32 →
      reason_in (get_or (started J m).reasons (reason_place_lem q A r) 0) ≡ get_or (started J m).reasons (reason_place_lem q A r) 0
  start_reason_lem q A r ql al rl = omega (arith, start_below q A r ql al rl)

  started_reasons_fit : ReasonsFit J (said (started J m)) (started J m).reasons
  started_reasons_fit =
      record {
        bounded = λ p l e. rw start_turn (omega arith);
        done_bounded = λ p l e. true_and_false e (started_not_done J m long p l);
        fits = λ q A r ql al rl there. rw (start_reason_lem, started_reason)
            (cases (J.given q A r)
            (λ g. Reason.by_given g (rw g))
            (λ g.
            let (same, below, some) =
            empty_at J m long q A r (rw g at (started_there J m long q A r ql (omega arith) rl there)) in
            let f = empty_reason_fits A 0 J.rules (empty 0) some in
            rw (g, eq-eqb, lt-ltb) (Reason.by_empty f.0 g (f.3 ∙ omega arith) (f.1, f.2) same below)));
        none = λ q A r ql al rl gone.
            let neither = not-true (J.given q A r || is_empty_at J q A r)
            (sym (started_absent J m long q A r ql (omega arith) rl) ∙ gone) in
            rw started_reason
            (cases (J.given q A r)
            (λ g. true_and_false (or_left _ _ g) neither)
            (λ g. cases (eqb q r && ltb q J.states)
            (λ b. rw (g, b) (omega (arith, leb-false 1 (empty_reason A 0 J.rules) (rw (g, b) at neither))))
            (λ b. rw (g, b))));
      }

  pub started_fitting : Fitting J (started J m)
  started_fitting =
      record {
        long = omega (arith, started_length J m);
        long_reasons = omega (arith, started_length_reasons J m);
        grown = started_grown J m long range;
        fit = started_reasons_fit;
      }

  pub run_reasons_fit_lem :
      (n : ℕ) → ReasonsFit J (said (steps J.rules n (started J m))) (steps J.rules n (started J m)).reasons
  run_reasons_fit_lem n = (steps_reasons_fit J range n _ started_fitting).fit
