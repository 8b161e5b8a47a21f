-- Reasons and turns on a bit table are those of the byte table that says the same: a start and steps leave its bytes,
-- the ones of the done half are its done places, and whether reasons fit depends on what is said alone. Assumes
-- nothing.
use Rattle.grammar.proofs.Basics.{◌≡◌, refl, ◌∙◌, sym, ap, subst, true, false, false≢true, Bool, cond, ◌||◌, List, ℕ}
use Rattle.grammar.proofs.Basics.{◌<◌, ◌≤◌, arith, length, lt-leb}
use Rattle.grammar.proofs.Counting.{count_cong}
use Rattle.job.specs.Job.{Job}
use Rattle.job.specs.Theorems.InRange.{InRange}
use Rattle.machine.specs.Table.{Lent, lent_of, table_size, table_place, from_state, symbol_at, to_state, Statuses}
use Rattle.machine.specs.Table.{says_absent, says_done, is_absent_at, is_done_at, done_in, done_count_lem, statuses, turn_at_lem}
use Rattle.machine.specs.Start.{is_empty_at, started}
use Rattle.machine.specs.Advance.{steps}
use Rattle.machine.specs.Theorems.Reasons.{Reason, ReasonsFit}
use Rattle.machine.proofs.Starts.StartLaws.{started_length}
use Rattle.machine.proofs.Steps.FirstPart.{done_agree}
use Rattle.machine.proofs.Reasons.Turns.{step_turns_lem}
use Rattle.machine.proofs.Reasons.Steps.{reason_carries}
use Rattle.machine.proofs.Reasons.Runs.{run_reasons_fit_lem}
use Rattle.machine.specs.Theorems.Turns.{StepTurns}
use Rattle.bit_machine.specs.BitTable.{bits_size, bit_statuses, table_of_bits}
use Rattle.bit_machine.specs.Machine.{as_bytes, started_bits, steps_bits}
use Rattle.bit_machine.specs.Theorems.Turns.{StepTurnsBits, RunReasonsFitBits}
use Rattle.bit_machine.proofs.ByteTables.{bytes_length, bytes_say, bytes_done_count}
use Rattle.bit_machine.proofs.Rewriting.{Plain, rewritten_length, bytes_again}
use Rattle.bit_machine.proofs.BitSteps.{steps_bytes}
use Rattle.bit_machine.proofs.Alongside.{started_byte}

-- a step
pub step_turns_bits_lem : StepTurnsBits
unfolding StepTurnsBits StepTurns steps_bits steps
step_turns_bits_lem ρs few m long unfinished q A r ql al rl comes =
    let added =
    step_turns_lem ρs few (as_bytes m) (omega (arith, bytes_length m.table), long.1) unfinished q A r ql al rl comes in
    record {
      reason_is = added.reason_is;
      turn_is = added.turn_is
          ∙ ap (λ (x : Lent). done_count_lem (statuses x.table)) (sym (steps_bytes ρs m long.0 1))
          ∙ sym (bytes_done_count (steps_bits ρs 1 m).table);
      at_most = added.at_most;
    }

-- the bytes of a start on bits
small_start : (there : Bool) → cond there 1 0 < 3
small_start true = omega arith
small_start false = omega arith

module _ (J : Job) (m : Lent) (long : bits_size ≤ length m.table) where
  started_plain : Plain (started J (as_bytes m)).table
  started_plain =
      record {
        size = started_length J (as_bytes m) ∙ bytes_length m.table;
        small = λ p l.
            rw (started_byte J (as_bytes m) p l (omega (arith, bytes_length m.table)), lt-leb table_size p l)
            (small_start (J.given (from_state p) (symbol_at p) (to_state p)
            || is_empty_at J (from_state p) (symbol_at p) (to_state p)));
      }

  pub started_bytes : as_bytes (started_bits J m) ≡ started J (as_bytes m)
  unfolding started_bits
  started_bytes =
      ap (λ t. lent_of t (started J (as_bytes m)).reasons)
      (bytes_again (λ p. false) _ m.table long (λ p l e. absurd (false≢true e)) started_plain)

  pub started_bits_length : length (started_bits J m).table ≡ length m.table
  unfolding started_bits
  started_bits_length = rewritten_length _ m.table

-- reasons that fit what one table says fit what another says, where both say the same
module _ (J : Job) (range : InRange J) (v w : Statuses) (agree : (p : ℕ) → p < table_size → v p ≡ w p)
    (reasons : List ℕ) where
  same_count : done_count_lem v ≡ done_count_lem w
  unfolding done_count_lem
  same_count = count_cong (is_done_at v) (is_done_at w) table_size (λ p l. ap says_done (agree p l))

  reason_agrees : (q A r n : ℕ) → q < 32 → r < 32 → Reason J (done_in v) (turn_at_lem reasons) q A r n →
      Reason J (done_in w) (turn_at_lem reasons) q A r n
  reason_agrees q A r n ql rl =
      reason_carries J range (done_in v) (done_in w) (turn_at_lem reasons) (turn_at_lem reasons)
      (λ a X b al xl bl e. (sym (done_agree v w agree a X b al xl bl) ∙ e, refl)) q A r n ql rl refl

  absent_agrees : (q A r : ℕ) (b : Bool) → q < 32 → A < 32 → r < 32 → is_absent_at w (table_place q A r) ≡ b →
      is_absent_at v (table_place q A r) ≡ b
  absent_agrees q A r b ql al rl e = ap says_absent (agree (table_place q A r) (omega arith)) ∙ e

  pub reasons_fit_agree : ReasonsFit J v reasons → ReasonsFit J w reasons
  reasons_fit_agree fit =
      record {
        bounded = λ p l e. rw (← same_count) (fit.bounded p l (ap says_absent (agree p l) ∙ e));
        done_bounded = λ p l e. rw (← same_count) (fit.done_bounded p l (ap says_done (agree p l) ∙ e));
        fits = λ q A r ql al rl e.
            reason_agrees q A r _ ql rl (fit.fits q A r ql al rl (absent_agrees q A r false ql al rl e));
        none = λ q A r ql al rl e. fit.none q A r ql al rl (absent_agrees q A r true ql al rl e);
      }

-- a start and steps
pub run_reasons_fit_bits_lem : RunReasonsFitBits
unfolding RunReasonsFitBits
run_reasons_fit_bits_lem J range m long n =
    let after = steps_bits J.rules n (started_bits J m) in
    let bytes : as_bytes after ≡ steps J.rules n (started J (as_bytes m)) =
    steps_bytes J.rules (started_bits J m) (omega (arith, started_bits_length J m long.0, long.0)) n
    ∙ ap (steps J.rules n) (started_bytes J m long.0) in
    let fit : ReasonsFit J (statuses (as_bytes after).table) (as_bytes after).reasons =
    subst (λ (x : Lent). ReasonsFit J (statuses x.table) x.reasons) (sym bytes)
    (run_reasons_fit_lem J range (as_bytes m) (omega (arith, bytes_length m.table)) long.1 n) in
    reasons_fit_agree J range (statuses (table_of_bits after.table)) (bit_statuses after.table)
    (bytes_say after.table) after.reasons fit
