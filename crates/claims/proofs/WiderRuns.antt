-- A list of calls gives what the checks of the job and the canonical job say; a wider table changes neither, but for
-- jobs that the narrower one refuses by 4. Assumes nothing.
use Rattle.grammar.proofs.Basics.{◌≡◌, refl, ◌∙◌, ap, true, false, Bool, List, ◌∷◌, [], ℕ, arith}
use Rattle.job.specs.Records.{Checked}
use Rattle.job.specs.Format.{field_classes}
use Rattle.job.specs.Check.{Checks, check_of, full_limits, job_check, accepted}
use Rattle.job.specs.Job.{job_of}
use Rattle.job.specs.Theorems.WiderClasses.{variable_pairs}
use Rattle.job.proofs.Accepted.{check_accepts_lem}
use Rattle.job.proofs.JobChecks.{nothing_shown}
use Rattle.job.proofs.Wider.{wider_checks_lem, pairs_widened}
use Rattle.machine.specs.Table.{Lent}
use Rattle.machine.specs.Operations.{machine_check_by, start_by, advance_by}
use Rattle.bit_machine.specs.Operations.{bits_check_by, start_bits_by, advance_bits_by}
use Rattle.forms.specs.Operations.{ask_check_by, ask_by, ask_bits_check_by, ask_bits_by, explain_check_by, explain_by}
use Rattle.verdicts.specs.Operation.{verdicts_check_by, verdicts_by}
use Rattle.claims.specs.Call.{Kind, bytes, bits, start_on, advance_on, ask_on, Call, start, advance, ask, explain}
use Rattle.claims.specs.Call.{verdicts, count, outcome_by, run_by}
use Rattle.claims.specs.WiderClasses.{ByWiderTable, WiderClasses}

module _ (checks others : Checks) (a b : List ℕ) (same : (needed : Bool) → checks needed a ≡ others needed b)
    (jobs : job_of a ≡ job_of b) where
  start_same : (k : Kind) (m : Lent) → start_on k checks a m ≡ start_on k others b m
  unfolding start_by start_bits_by machine_check_by bits_check_by
  start_same bytes m = rw (same true, jobs)
  start_same bits m = rw (same true, jobs)

  advance_same : (k : Kind) (m : Lent) (n : ℕ) → advance_on k checks a m n ≡ advance_on k others b m n
  unfolding advance_by advance_bits_by machine_check_by bits_check_by
  advance_same bytes m n = rw (same true, jobs)
  advance_same bits m n = rw (same true, jobs)

  ask_same : (k : Kind) (table form : List ℕ) → ask_on k checks a table form ≡ ask_on k others b table form
  unfolding ask_by ask_bits_by ask_check_by ask_bits_check_by
  ask_same bytes table form = rw (same true, jobs)
  ask_same bits table form = rw (same true, jobs)

  outcome_same : (k : Kind) (m : Lent) (c : Call k) → outcome_by k checks a m c ≡ outcome_by k others b m c
  unfolding outcome_by explain_by verdicts_by machine_check_by explain_check_by verdicts_check_by
  outcome_same k m start = rw (start_same k m)
  outcome_same k m (advance n) = rw (advance_same k m n)
  outcome_same k m (ask form) = rw (ask_same k m.table form)
  outcome_same bytes m (explain form listing) = rw (same true, jobs)
  outcome_same bytes m (verdicts codes) = rw (same false, jobs)
  outcome_same bits m count = refl

  run_same : (k : Kind) (m : Lent) (cs : List (Call k)) → run_by k checks a m cs ≡ run_by k others b m cs
  unfolding run_by
  run_same k m [] = refl
  run_same k m (c ∷ cs) = rw (outcome_same k m c, run_same k (outcome_by k others b m c).lent cs)

by_wider_table : ByWiderTable
by_wider_table narrow wide within job n =
    run_same (check_of wide full_limits) (check_of narrow full_limits) job job
    (wider_checks_lem narrow wide within full_limits job n) refl

pub wider_classes_lem : WiderClasses
unfolding WiderClasses
wider_classes_lem = (
  run_same,
  by_wider_table,
  λ job ok.
      let refused : (check_of variable_pairs full_limits false job).number ≡ 4 → ⊥
      = λ e. omega (arith, ap (λ (c : Checked). c.number) ok) in
      let still : job_check false job ≡ accepted
      = wider_checks_lem variable_pairs field_classes pairs_widened full_limits job refused false ∙ ok in
      record {
        still = still;
        runs = by_wider_table variable_pairs field_classes pairs_widened job refused;
        shown = nothing_shown ((check_accepts_lem false job).0 still);
      },
)
