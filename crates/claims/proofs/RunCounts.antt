-- In a run the counts since a start add up to those of the smallest set. The invariant: where the counting says so,
-- what is lent and the sums are those of the steps asked for since a start. Assumes nothing.
use Rattle.grammar.proofs.Basics.{◌≡◌, ◌∙◌, sym, ap, false, List, ◌∷◌, [], ℕ, le-ltb}
use Rattle.job.specs.Records.{Checked}
use Rattle.job.specs.Accepted.{Accepted}
use Rattle.job.specs.Job.{job_of}
use Rattle.job.proofs.AcceptedFacts.{in_range}
use Rattle.machine.specs.Table.{Lent, statuses, done_count_lem}
use Rattle.machine.specs.Step.{is_finished}
use Rattle.machine.specs.Smallest.{SmallestCount}
use Rattle.machine.proofs.Starts.StartCounts.{run_made, run_finished, run_finished_meetings, run_meetings_bound}
use Rattle.machine.proofs.Starts.StartCounts.{run_done_count}
use Rattle.bit_machine.specs.BitTable.{bits_size, done_bits}
use Rattle.bit_machine.proofs.ByteTables.{bytes_done_count}
use Rattle.forms.specs.Operations.{finished_from}
use Rattle.forms.proofs.ExplainCases.{explain_settles}
use Rattle.verdicts.specs.Operation.{verdicts_on}
use Rattle.claims.specs.Call.{Kind, bytes, bits, Call, start, advance, ask, explain, verdicts, count}
use Rattle.claims.specs.Call.{CallOutcome, outcome_of, run_of, run_by}
use Rattle.claims.specs.Counts.{Counting, idle, since, after, CountsRight, AnswerRight, Counted, none, more}
use Rattle.claims.proofs.CallChecks.{call_check_lem}
use Rattle.claims.proofs.EitherTable.{read, check_passed, read_long, steps_read}
use Rattle.claims.proofs.Outcomes.{given, refusal, by_check}
use Rattle.claims.proofs.SideBySide.{call_refused}
use Rattle.claims.proofs.SinceStart.{Since, since_start_lem, since_passes, since_steps}

-- what holds where a run stands
abbrev pub Standing : Kind → List ℕ → Lent → Counting → Type 0
Standing t job m idle = Unit {0}
Standing t job m (since a s k) = Since t job m a s k

module _ (job : List ℕ) (ok : Accepted false job) (N : ℕ) (counted : SmallestCount (job_of job) N) where
  -- the sums since a start
  since_right : (t : Kind) (m : Lent) (a s k : ℕ) → Since t job m a s k →
      CountsRight (job_of job) N a s k (is_finished (statuses (read t m).table))
  since_right t m a s k h =
      let J = job_of job in
      let range = in_range ok in
      let from = read t h.from in
      let long = read_long h.from t (check_passed t job h.from h.passed).long in
      rw (h.lent, h.steps_so, h.meetings_so)
      (record {
        steps_right = run_made J range from long counted a;
        finished_right = run_finished J range from long counted a;
        meetings_right = run_finished_meetings J range from long a;
        meetings_few = run_meetings_bound J range from long a;
      })

  -- and the done count
  since_done : (m : Lent) (a s k : ℕ) → Since bits job m a s k → done_bits m.table ≡ s
  since_done m a s k h =
      let from = read bits h.from in
      let long = read_long h.from bits (check_passed bits job h.from h.passed).long in
      bytes_done_count m.table ∙ ap (λ (l : Lent). done_count_lem (statuses l.table)) h.lent
      ∙ run_done_count (job_of job) (in_range ok) from long a ∙ sym h.steps_so

  -- where the run stands after a call, and that it counts right
  abbrev Counts : (t : Kind) → Call t → Counting → CallOutcome → Type 0
  Counts t c k o =
      Standing t job o.lent (after t k c o.answer)
      × AnswerRight (job_of job) N (after t k c o.answer) o.answer

  -- an advance since a start answers of the table that it leaves
  advance_counts : (t : Kind) (m : Lent) (a s k : ℕ) → Since t job m a s k → (n : ℕ) →
      Counts t (advance n) (since a s k) (given t (job_of job) m (advance n))
  unfolding given
  advance_counts t m a s k h n =
      let next = since_steps t job m a s k h n in
      let long = (check_passed t job m (since_passes t job m a s k h)).long in
      (next, rw (← steps_read m t (job_of job).rules n long) (since_right t _ _ _ _ next))

  given_counts : (t : Kind) (m : Lent) (c : Call t) (k : Counting) → Standing t job m k →
      (call_check_lem t job m c).number ≡ 0 → Counts t c k (given t (job_of job) m c)
  unfolding given call_check_lem verdicts_on
  given_counts t m start k h e = (since_start_lem t job m e, tt)
  given_counts t m (advance n) idle h e = (tt, tt)
  given_counts t m (advance n) (since a s k) h e = advance_counts t m a s k h n
  given_counts t m (ask form) idle h e = (tt, tt)
  given_counts t m (ask form) (since a s k) h e = (h, tt)
  given_counts bytes m (explain form out) k h e =
      rw (explain_settles (job_of job) (finished_from (job_of job) m) form out) (tt, tt)
  given_counts bytes m (verdicts codes) k h e = (tt, tt)
  given_counts bits m count idle h e = (tt, tt)
  given_counts bits m count (since a s k) h e = (h, since_done m a s k h)

  -- since a start no advance and no done count is refused, and of other calls nothing is said
  refused_right :
      (t : Kind) (m : Lent) (c : Call t) (k : Counting) (x : Checked) → Standing t job m k →
      ((call_check_lem t job m c).number ≡ 0 → ⊥) → AnswerRight (job_of job) N k (refusal t x c)
  unfolding refusal call_check_lem
  refused_right t m c idle x h r = tt
  refused_right t m start (since a s k) x h r = tt
  refused_right t m (advance n) (since a s k) x h r = absurd (r (since_passes t job m a s k h))
  refused_right t m (ask form) (since a s k) x h r = tt
  refused_right bytes m (explain form out) (since a s k) x h r = tt
  refused_right bytes m (verdicts codes) (since a s k) x h r = tt
  refused_right bits m count (since a s k) x h r =
      absurd (r (rw (le-ltb _ bits_size (check_passed bits job m (since_passes bits job m a s k h)).long)))

  pub run_counted : (t : Kind) (m : Lent) (cs : List (Call t)) (k : Counting) → Standing t job m k →
      Counted t (job_of job) N k cs (run_of t job m cs)
  unfolding run_by
  run_counted t m [] k h = none
  run_counted t m (c ∷ cs) k h =
      let (stands, right) = by_check t (Counts t c k) job m c (given_counts t m c k h)
      (λ r. rw ((call_refused t job m c ok r).2 k) (h, refused_right t m c k (call_check_lem t job m c) h r)) in
      more right (run_counted t (outcome_of t job m c).lent cs (after t k c (outcome_of t job m c).answer) stands)
