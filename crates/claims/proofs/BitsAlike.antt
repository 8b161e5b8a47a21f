-- A bit table and a byte table that say the same: a call on each is refused alike, or answers the same and leaves such
-- tables, and so do all that follow a start. The first part of the bit table's bytes is brought beside that of the
-- byte table, on which the machine takes the same steps. Assumes nothing.
use Rattle.grammar.proofs.Basics.{◌≡◌, refl, ◌∙◌, sym, ap, List, ◌∷◌, [], ℕ, arith, eqb, length-take}
use Rattle.grammar.proofs.Basics.{eqb-true, eqb-false, le-ltb, cases}
use mathlib.Core.Path.{subst₂}
use Rattle.grammar.specs.Rule.{Rule}
use Rattle.job.specs.Job.{Job, job_of}
use Rattle.job.proofs.AcceptedFacts.{in_range}
use Rattle.machine.specs.Table.{Lent, lent_of, table_size, reasons_size}
use Rattle.machine.specs.Start.{started}
use Rattle.machine.specs.Step.{is_finished}
use Rattle.machine.specs.Advance.{steps, steps_made, meetings_made}
use Rattle.machine.specs.Operations.{machine_check_lem, machine_check_by, start_of, start_by, advance_of, advance_by}
use Rattle.machine.proofs.MachineChecks.{machine_passed}
use Rattle.machine.proofs.Tables.RuleRanges.{RulesInRange}
use Rattle.machine.proofs.Starts.StartLaws.{started_keeps_rest}
use Rattle.machine.proofs.Steps.FirstPart.{first, said_first, finished_first, started_alike, steps_first}
use Rattle.machine.proofs.Steps.FirstPart.{steps_made_first, meetings_made_first}
use Rattle.machine.proofs.Steps.StepLaws.{said, steps_keep_rest}
use Rattle.machine.proofs.Steps.SameSteps.{Same, same_finished, steps_same, steps_made_same, meetings_made_same}
use Rattle.forms.specs.Operations.{ask_of, ask_bits_of}
use Rattle.forms.proofs.AskedAlike.{asked_alike}
use Rattle.bit_machine.specs.BitTable.{bits_size}
use Rattle.bit_machine.specs.Machine.{as_bytes, started_bits, steps_bits}
use Rattle.bit_machine.specs.Operations.{bits_check_lem, bits_check_by, start_bits_of, start_bits_by, advance_bits_of}
use Rattle.bit_machine.specs.Operations.{advance_bits_by}
use Rattle.bit_machine.proofs.Alongside.{starts_alike}
use Rattle.bit_machine.proofs.ByteTables.{bytes_length, bytes_say}
use Rattle.bit_machine.proofs.Rewriting.{rewritten_length}
use Rattle.bit_machine.proofs.BitSteps.{steps_bits_length, steps_say}
use Rattle.claims.specs.BitsAlike.{BothLong, AlikeFirst, StartAlike, AdvanceAlike, RunAlike, advanced_bits}
use Rattle.claims.specs.BitsAlike.{advanced}

module _ (bits table : Lent) (long : BothLong bits table) where
  -- a start, whatever was there
  started_both : (J : Job) → AlikeFirst (started_bits J bits) (started J table)
  unfolding started_bits started
  started_both J =
      record {
        says =
            (starts_alike J (lent_of bits.table table.reasons) table long.bits_long long.table_long refl).says;
        reasons =
            ap (λ (m : Lent). m.reasons)
            (started_alike J (as_bytes bits) table (omega (arith, bytes_length bits.table)) long.table_long
            long.bit_reasons_long long.reasons_long);
      }

  -- steps on tables that say the same
  module _ (alike : AlikeFirst bits table) (ρs : List Rule) (range : RulesInRange ρs) (n : ℕ) where
    abbrev of_bits : Lent
    of_bits = as_bytes bits

    same : Same (first of_bits) (first table)
    same =
        record {
          long = omega (arith, length-take table_size of_bits.table, bytes_length bits.table);
          other_long = omega (arith, length-take table_size table.table, long.table_long);
          says = λ p l.
              sym (said_first of_bits.table p l) ∙ bytes_say bits.table p l ∙ alike.says p l
              ∙ said_first table.table p l;
          reasons = alike.reasons;
        }

    same_after : Same (first (steps ρs n of_bits)) (first (steps ρs n table))
    same_after =
        subst₂ Same (sym (steps_first ρs range n of_bits)) (sym (steps_first ρs range n table))
        (steps_same ρs range n (first of_bits) (first table) same)

    finished_both : is_finished (said (steps ρs n of_bits)) ≡ is_finished (said (steps ρs n table))
    finished_both =
        finished_first (steps ρs n of_bits).table ∙ same_finished same_after
        ∙ sym (finished_first (steps ρs n table).table)

    made_both : steps_made ρs n of_bits ≡ steps_made ρs n table
    made_both =
        steps_made_first ρs range n of_bits ∙ steps_made_same ρs range n (first of_bits) (first table) same
        ∙ sym (steps_made_first ρs range n table)

    met_both : meetings_made ρs n of_bits ≡ meetings_made ρs n table
    met_both =
        meetings_made_first ρs range n of_bits ∙ meetings_made_same ρs range n (first of_bits) (first table) same
        ∙ sym (meetings_made_first ρs range n table)

    steps_both : AlikeFirst (steps_bits ρs n bits) (steps ρs n table)
    unfolding steps_bits
    steps_both =
        record {
          says = λ p l.
              steps_say ρs bits long.bits_long n p l ∙ said_first (steps ρs n of_bits).table p l
              ∙ same_after.says p l ∙ sym (said_first (steps ρs n table).table p l);
          reasons = same_after.reasons;
        }

module _ (job : List ℕ) (bits table : Lent) (long : BothLong bits table) where
  -- the checks of both pass on to those of the job
  same_check : bits_check_lem job bits ≡ machine_check_lem job table
  unfolding bits_check_by machine_check_by
  same_check =
      rw (
        le-ltb _ bits_size long.bits_long,
        le-ltb _ table_size long.table_long,
        le-ltb _ reasons_size long.bit_reasons_long,
        le-ltb _ reasons_size long.reasons_long,
      )

  pub start_alike : StartAlike job bits table
  unfolding start_bits_by start_by
  start_alike =
      cases (eqb (machine_check_lem job table).number 0)
      (λ e. record {
        answer = rw (same_check, e);
        lent = λ h. rw (same_check, e) (started_both bits table long (job_of job));
      })
      (λ e. record {
        answer = rw (same_check, e);
        lent = λ h. absurd (eqb-false (machine_check_lem job table).number 0 e (rw e at h));
      })

  module _ (alike : AlikeFirst bits table) where
    pub advance_alike : (n : ℕ) → AdvanceAlike job bits table n
    unfolding advance_bits_by advance_by
    advance_alike n =
        cases (eqb (machine_check_lem job table).number 0)
        (λ e.
        let ρs = (job_of job).rules in
        let range = (in_range (machine_passed job table _ refl (eqb-true _ 0 e)).ok).rules in
        record {
          answer = rw (
            same_check,
            e,
            finished_both bits table long alike ρs range n,
            made_both bits table long alike ρs range n,
            met_both bits table long alike ρs range n,
          );
          lent = rw (same_check, e) (steps_both bits table long alike ρs range n);
        })
        (λ e. record { answer = rw (same_check, e); lent = rw (same_check, e) alike })

    pub ask_alike : (form : List ℕ) → ask_bits_of job bits.table form ≡ ask_of job table.table form
    ask_alike form =
        asked_alike job bits.table table.table form long.bits_long long.table_long alike.says

    -- what an advance leaves is as long
    advance_long : (n : ℕ) → BothLong (advance_bits_of job bits n).lent (advance_of job table n).lent
    unfolding advance_bits_by advance_by steps_bits
    advance_long n =
        cases (eqb (machine_check_lem job table).number 0)
        (λ e.
        let ρs = (job_of job).rules in
        let kept = steps_keep_rest ρs n table in
        rw (same_check, e)
        (record {
          bits_long = omega (arith, steps_bits_length ρs bits long.bits_long n, long.bits_long);
          bit_reasons_long = omega (arith, (steps_keep_rest ρs n (as_bytes bits)).long_reasons, long.bit_reasons_long);
          table_long = omega (arith, kept.long_table, long.table_long);
          reasons_long = omega (arith, kept.long_reasons, long.reasons_long);
        }))
        (λ e. rw (same_check, e) long)

  -- and so is what a start leaves
  start_long : (start_of job table).answer.number ≡ 0 → BothLong (start_bits_of job bits).lent (start_of job table).lent
  unfolding start_bits_by start_by started_bits
  start_long h =
      cases (eqb (machine_check_lem job table).number 0)
      (λ e.
      let kept = started_keeps_rest (job_of job) table in
      rw (same_check, e)
      (record {
        bits_long = rw (rewritten_length _ bits.table) long.bits_long;
        bit_reasons_long =
            omega (arith, (started_keeps_rest (job_of job) (as_bytes bits)).long_reasons, long.bit_reasons_long);
        table_long = omega (arith, kept.long_table, long.table_long);
        reasons_long = omega (arith, kept.long_reasons, long.reasons_long);
      }))
      (λ e. absurd (eqb-false (machine_check_lem job table).number 0 e (rw e at h)))

-- advances, one after the other
advances_alike : (job ns : List ℕ) (bits table : Lent) → BothLong bits table → AlikeFirst bits table →
    RunAlike job (advanced_bits job ns bits) (advanced job ns table)
advances_alike job [] bits table long alike =
    record {
      alike = alike;
      advance = λ n. (advance_alike job bits table long alike n).answer;
      ask = ask_alike job bits table long alike;
    }
advances_alike job (n ∷ ns) bits table long alike =
    advances_alike job ns _ _ (advance_long job bits table long alike n)
    (advance_alike job bits table long alike n).lent

pub run_alike : (job : List ℕ) (bits table : Lent) → BothLong bits table → (start_of job table).answer.number ≡ 0 →
    (ns : List ℕ) →
    RunAlike job (advanced_bits job ns (start_bits_of job bits).lent) (advanced job ns (start_of job table).lent)
run_alike job bits table long passed ns =
    advances_alike job ns _ _ (start_long job bits table long passed) ((start_alike job bits table long).lent passed)
