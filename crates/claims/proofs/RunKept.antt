-- In a run each call keeps lengths, all past the first part of what is lent, and all past what it writes of its own
-- buffer. Assumes nothing.
use Rattle.grammar.proofs.Basics.{◌≡◌, refl, false, List, ◌∷◌, [], ℕ, drop}
use Rattle.job.specs.Accepted.{Accepted}
use Rattle.job.specs.Job.{job_of}
use Rattle.job.proofs.AcceptedFacts.{in_range}
use Rattle.job.proofs.Clearing.{cleared_length, cleared_past}
use Rattle.job.proofs.Filling.{written_rest}
use Rattle.machine.specs.Table.{Lent, KeepsRest, table_size}
use Rattle.machine.proofs.Steps.StepLaws.{rest_same, rest_after}
use Rattle.forms.specs.Operations.{finished_from, explain_finished_lem}
use Rattle.forms.proofs.AskAnswers.{initial_state}
use Rattle.forms.proofs.ExplainCases.{explain_past}
use Rattle.forms.proofs.ExplainChecks.{explain_passed}
use Rattle.forms.proofs.ExplainLaws.{explain_keeps}
use Rattle.verdicts.specs.Verdicts.{code_of}
use Rattle.verdicts.specs.Operation.{verdicts_on}
use Rattle.claims.specs.Call.{Kind, bytes, bits, size_of, Call, start, advance, ask, explain, verdicts, count}
use Rattle.claims.specs.Call.{CallOutcome, outcome_of, run_of, run_by}
use Rattle.claims.specs.Alike.{own_written, own_of, Unwritten, none, more}
use Rattle.claims.proofs.CallChecks.{call_check_lem}
use Rattle.claims.proofs.EitherTable.{started_keeps, steps_keeps}
use Rattle.claims.proofs.Outcomes.{given, by_check}
use Rattle.claims.proofs.LentKept.{run_keeps}

-- past what a call may write its own buffer is as it was
abbrev OwnKept : (k : Kind) → Call k → CallOutcome → Type 0
OwnKept k c o = drop (own_written o.answer) o.own ≡ drop (own_written o.answer) (own_of k c)

module _ (job : List ℕ) (ok : Accepted false job) where
  given_keeps : (k : Kind) (m : Lent) (c : Call k) → (call_check_lem k job m c).number ≡ 0 →
      KeepsRest (size_of k) m (given k (job_of job) m c).lent
  unfolding given call_check_lem verdicts_on
  given_keeps k m start e = started_keeps m k (job_of job)
  given_keeps k m (advance n) e = steps_keeps m k (job_of job).rules n
  given_keeps k m (ask form) e = rest_same (size_of k) m
  given_keeps bytes m (explain form out) e =
      let (passed, fits) = explain_passed job m form _ refl e in
      let J = job_of job in
      let now = finished_from J m in
      rest_after table_size m now (explain_finished_lem J now form out).lent (run_keeps job m 65536)
      (explain_keeps J (in_range ok) (initial_state passed.ok) form fits.symbols now out)
  given_keeps bytes m (verdicts codes) e =
      record {
        long_table = cleared_length 65536 m.table;
        long_reasons = refl;
        rest_table = cleared_past 65536 m.table;
        rest_reasons = refl;
      }
  given_keeps bits m count e = rest_same (size_of bits) m

  given_own : (k : Kind) (m : Lent) (c : Call k) → OwnKept k c (given k (job_of job) m c)
  unfolding given verdicts_on
  given_own k m start = refl
  given_own k m (advance n) = refl
  given_own k m (ask form) = refl
  given_own bytes m (explain form out) = explain_past (job_of job) (finished_from (job_of job) m) form out
  given_own bytes m (verdicts codes) = written_rest (code_of (job_of job).rules (job_of job).start) 0 64 codes
  given_own bits m count = refl

  pub call_keeps : (k : Kind) (m : Lent) (c : Call k) → KeepsRest (size_of k) m (outcome_of k job m c).lent
  call_keeps k m c =
      by_check k (λ o. KeepsRest (size_of k) m o.lent) job m c (given_keeps k m c) (λ r. rest_same (size_of k) m)

  pub run_kept : (k : Kind) (m : Lent) (cs : List (Call k)) → Unwritten k m cs (run_of k job m cs)
  unfolding run_by
  run_kept k m [] = none
  run_kept k m (c ∷ cs) =
      more (call_keeps k m c) (by_check k (OwnKept k c) job m c (λ e. given_own k m c) (λ r. refl))
      (run_kept k (outcome_of k job m c).lent cs)
