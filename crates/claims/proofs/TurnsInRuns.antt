-- Turns fall all along a run: of the table as it is read, a start makes reasons that fit, steps keep them fitting, and
-- the marks of a listing change nothing that the table says. A refused call writes nothing. Assumes nothing.
use Rattle.grammar.proofs.Basics.{◌≡◌, refl, ◌∙◌, ap, true, false, false≢true, Bool, ◌||◌, List, ◌∷◌, [], ℕ, arith}
use Rattle.grammar.proofs.Basics.{ne_eqb, and_left, and_right}
use Rattle.grammar.specs.Rule.{Rule}
use Rattle.job.specs.Accepted.{Accepted}
use Rattle.job.specs.Job.{Job, job_of}
use Rattle.job.specs.Theorems.InRange.{InRange}
use Rattle.job.proofs.Accepted.{check_accepts_lem}
use Rattle.job.proofs.AcceptedFacts.{in_range}
use Rattle.machine.specs.Table.{Lent, says_absent}
use Rattle.machine.specs.Start.{started}
use Rattle.machine.proofs.Reasons.Runs.{Fitting, started_fitting, steps_reasons_fit}
use Rattle.forms.specs.Operations.{explain_check_lem, finished_from, explain_finished_lem}
use Rattle.forms.proofs.AskAnswers.{initial_state}
use Rattle.forms.proofs.ExplainChecks.{explain_passed}
use Rattle.forms.proofs.ExplainLaws.{explain_keeps, explain_says, explain_reasons}
use Rattle.forms.proofs.Grounding.{premises_earlier}
use Rattle.verdicts.specs.Operation.{verdicts_on}
use Rattle.bit_machine.proofs.ByteTables.{bytes_say}
use Rattle.claims.specs.Call.{Kind, bytes, bits, Call, start, advance, ask, explain, verdicts, count}
use Rattle.claims.specs.Call.{CallOutcome, outcome_of, run_of, run_by}
use Rattle.claims.specs.Turns.{TurnsFall, since_start, TurnsRight, none, more, TurnsInRuns}
use Rattle.claims.proofs.CallChecks.{call_check_lem, explain_number}
use Rattle.claims.proofs.EitherTable.{check_on, started_on, read, check_passed, read_long, read_reasons}
use Rattle.claims.proofs.EitherTable.{started_read, steps_read}
use Rattle.claims.proofs.Outcomes.{given, refusal, refused, by_check}

or_none : (b : Bool) → (b || false) ≡ true → b ≡ true
or_none true e = refl
or_none false e = e

-- what holds of the table as it is read
turns_read : (k : Kind) (rules : List Rule) (m : Lent) → TurnsFall bytes rules (read k m) → TurnsFall k rules m
turns_read bytes rules m fall = fall
turns_read bits rules m fall = λ p q l there. fall p q l (ap says_absent (bytes_say m.table p l) ∙ there)

module _ (job : List ℕ) (ok : Accepted false job) where
  abbrev J : Job
  J = job_of job

  range : InRange J
  range = in_range ok

  -- what holds of the memory since a start
  abbrev Known : Kind → Bool → Lent → Type 0
  Known k known m = known ≡ true → Fitting J (read k m)

  abbrev Leaves : Kind → Bool → CallOutcome → Type 0
  Leaves k known o = Known k (since_start known o.answer) o.lent

  started_fits : (k : Kind) (m : Lent) → (check_on k job m).number ≡ 0 → Fitting J (read k (started_on k J m))
  started_fits k m e =
      let passed = check_passed k job m e in
      rw (started_read m k J passed.long)
      (started_fitting J range (read k m) (read_long m k passed.long)
      (rw (read_reasons m k) passed.long_reasons))

  -- a listing's marks change nothing of it
  explained_fits : (m : Lent) (form out : List ℕ) → (call_check_lem bytes job m (explain form out)).number ≡ 0 →
      Fitting J (explain_finished_lem J (finished_from J m) form out).lent
  unfolding call_check_lem
  explained_fits m form out e =
      let (passed, fits) = explain_passed job m form _ refl e in
      let now = finished_from J m in
      let fit = steps_reasons_fit J range 65536 (started J m)
      (started_fitting J range m passed.long passed.long_reasons) in
      let initial = initial_state passed.ok in
      let kept = explain_keeps J range initial form fits.symbols now out in
      let says = explain_says J range initial form fits.symbols now out fit.fit fit.long in
      record {
        long = omega (arith, kept.long_table, fit.long);
        long_reasons = omega (arith, kept.long_reasons, fit.long_reasons);
        grown = rw says fit.grown;
        fit = rw (says, explain_reasons J range initial form fits.symbols now out) fit.fit;
      }

  given_leaves : (k : Kind) (known : Bool) (m : Lent) (c : Call k) → Known k known m →
      (call_check_lem k job m c).number ≡ 0 → Leaves k known (given k J m c)
  unfolding given call_check_lem verdicts_on
  given_leaves k known m start fits e s = started_fits k m e
  given_leaves k known m (advance n) fits e s =
      rw (steps_read m k J.rules n (check_passed k job m e).long) (steps_reasons_fit J range n (read k m) (fits s))
  given_leaves k known m (ask form) fits e s = fits s
  given_leaves bytes known m (explain form out) fits e s = explained_fits m form out e
  given_leaves bytes known m (verdicts codes) fits e s = absurd (false≢true (and_right known false s))
  given_leaves bits known m count fits e s = fits s

  refused_leaves : (k : Kind) (known : Bool) (m : Lent) (c : Call k) → Known k known m →
      ((call_check_lem k job m c).number ≡ 0 → ⊥) → Leaves k known (refused k (call_check_lem k job m c) m c)
  unfolding refusal call_check_lem
  refused_leaves k known m start fits r s = fits (or_none known (rw (ne_eqb _ 0 r) at s))
  refused_leaves k known m (advance n) fits r s = fits s
  refused_leaves k known m (ask form) fits r s = fits s
  refused_leaves bytes known m (explain form out) fits r s =
      let other = ne_eqb (explain_check_lem job m form).number 13 (λ t. omega (arith, explain_number job m form ok)) in
      fits (or_none known (rw (ne_eqb _ 0 r, other) at s))
  refused_leaves bytes known m (verdicts codes) fits r s = fits (and_left known _ s)
  refused_leaves bits known m count fits r s = fits s

  turns_right : (k : Kind) (known : Bool) (m : Lent) (cs : List (Call k)) → Known k known m →
      TurnsRight k J.rules known (run_of k job m cs)
  unfolding run_by
  turns_right k known m [] fits = none
  turns_right k known m (c ∷ cs) fits =
      let after : Leaves k known (outcome_of k job m c) =
      by_check k (Leaves k known) job m c (given_leaves k known m c fits) (refused_leaves k known m c fits) in
      let now = (outcome_of k job m c).lent in
      more (λ s. turns_read k J.rules now (premises_earlier J range (read k now) (after s).fit))
      (turns_right k (since_start known (outcome_of k job m c).answer) now cs after)

pub turns_in_runs_lem : TurnsInRuns
unfolding TurnsInRuns
turns_in_runs_lem k job checked m cs =
    turns_right job ((check_accepts_lem false job).0 checked) k false m cs (λ e. absurd (false≢true e))
