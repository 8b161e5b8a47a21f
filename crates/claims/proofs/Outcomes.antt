-- What a call leaves, by whether its check refuses it: the two cases of each operation's definition. Assumes nothing.
use Rattle.grammar.proofs.Basics.{◌≡◌, refl, false, cond, List, [], ℕ, eqb, eqb-true, eqb-false, cases}
use Rattle.job.specs.Records.{Checked}
use Rattle.job.specs.Job.{Job, job_of}
use Rattle.machine.specs.Table.{Lent, statuses}
use Rattle.machine.specs.Step.{is_finished}
use Rattle.machine.specs.Advance.{steps, steps_made, meetings_made}
use Rattle.bit_machine.specs.BitTable.{done_bits}
use Rattle.bit_machine.specs.Operations.{short_bits, done_count_of}
use Rattle.forms.specs.Operations.{accepts_by, explain_check_lem, finished_from, explain_finished_lem, explain_by}
use Rattle.verdicts.specs.Operation.{verdicts_check_lem, verdicts_by, verdicts_on}
use Rattle.claims.specs.Call.{Kind, bytes, bits, says_of, Call, start, advance, ask, explain, verdicts, count}
use Rattle.claims.specs.Call.{CallOutcome, outcome_of, outcome_by, Answer}
use Rattle.claims.specs.Call.{started, advanced, asked, explained, judged, counted}
use Rattle.claims.specs.Alike.{own_of}
use Rattle.claims.proofs.CallChecks.{call_check_lem}
use Rattle.claims.proofs.EitherTable.{check_on, ask_check_on, started_on, steps_on, read, start_is, advance_is}
use Rattle.claims.proofs.EitherTable.{ask_is}

-- what a call that is not refused leaves
unfoldable pub given : (k : Kind) → Job → Lent → Call k → CallOutcome
given k J m start =
    record {
      answer = started (record { number = 0; place = 0; states = J.states });
      own = [];
      lent = started_on k J m;
    }
given k J m (advance n) =
    record {
      answer =
          advanced (record {
            number = 0;
            place = 0;
            finished = is_finished (statuses (steps J.rules n (read k m)).table);
            steps = steps_made J.rules n (read k m);
            meetings = meetings_made J.rules n (read k m);
          });
      own = [];
      lent = steps_on k J.rules n m;
    }
given k J m (ask form) =
    record {
      answer = asked (record { number = 0; place = 0; accepted = accepts_by J (says_of k m.table) form });
      own = [];
      lent = m;
    }
given bytes J m (explain form out) =
    let o = explain_finished_lem J (finished_from J m) form out in
    record { answer = explained o.answer; own = o.listing; lent = o.lent }
given bytes J m (verdicts codes) =
    let o = verdicts_on J m.table codes in
    record { answer = judged o.answer; own = o.codes; lent = record { table = o.table; reasons = m.reasons } }
given bits J m count =
    record { answer = counted (record { number = 0; place = 0; count = done_bits m.table }); own = []; lent = m }

-- what a refused one answers, and what it leaves
unfoldable pub refusal : (k : Kind) → Checked → Call k → Answer
refusal k x start = started (record { number = x.number; place = x.place; states = 0 })
refusal k x (advance n) =
    advanced (record { number = x.number; place = x.place; finished = false; steps = 0; meetings = 0 })
refusal k x (ask form) = asked (record { number = x.number; place = x.place; accepted = false })
refusal bytes x (explain form out) =
    explained (record { number = x.number; place = x.place; accepted = false; records = 0 })
refusal bytes x (verdicts codes) =
    judged (record { number = x.number; place = x.place; empty = false; growing = false })
refusal bits x count = counted (record { number = x.number; place = x.place; count = 0 })

abbrev pub refused : (k : Kind) → Checked → Lent → Call k → CallOutcome
refused k x m c = record { answer = refusal k x c; own = own_of k c; lent = m }

outcome_is : (k : Kind) (job : List ℕ) (m : Lent) (c : Call k) →
    outcome_of k job m c
    ≡ cond (eqb (call_check_lem k job m c).number 0) (given k (job_of job) m c) (refused k (call_check_lem k job m c) m c)
unfolding outcome_by call_check_lem given refusal explain_by verdicts_by done_count_of
outcome_is k job m start =
    rw (start_is k job m) (cases (eqb (check_on k job m).number 0) (λ t. rw t) (λ t. rw t))
outcome_is k job m (advance n) =
    rw (advance_is k job m n) (cases (eqb (check_on k job m).number 0) (λ t. rw t) (λ t. rw t))
outcome_is k job m (ask form) =
    rw (ask_is k job m.table form)
    (cases (eqb (ask_check_on k job m.table form).number 0) (λ t. rw t) (λ t. rw t))
outcome_is bytes job m (explain form out) = cases (eqb (explain_check_lem job m form).number 0) (λ t. rw t) (λ t. rw t)
outcome_is bytes job m (verdicts codes) =
    cases (eqb (verdicts_check_lem job m.table codes).number 0) (λ t. rw t) (λ t. rw t)
outcome_is bits job m count = cases (eqb (short_bits m.table).number 0) (λ t. rw t) (λ t. rw t)

-- what holds of two calls with one check and one job, in both cases
pub both_by_check : (k : Kind) (P : CallOutcome → CallOutcome → Type 0) (a b : List ℕ) (m n : Lent) (c d : Call k) →
    call_check_lem k a m c ≡ call_check_lem k b n d → job_of a ≡ job_of b →
    ((call_check_lem k a m c).number ≡ 0 → P (given k (job_of a) m c) (given k (job_of a) n d)) →
    (((call_check_lem k a m c).number ≡ 0 → ⊥) →
    P (refused k (call_check_lem k a m c) m c) (refused k (call_check_lem k a m c) n d)) →
    P (outcome_of k a m c) (outcome_of k b n d)
both_by_check k P a b m n c d check jobs passes refuses =
    rw (outcome_is k a m c, outcome_is k b n d, ← check, ← jobs)
    (cases (eqb (call_check_lem k a m c).number 0)
    (λ t. rw t (passes (eqb-true (call_check_lem k a m c).number 0 t)))
    (λ t. rw t (refuses (eqb-false (call_check_lem k a m c).number 0 t))))

-- and of one
pub by_check : (k : Kind) (P : CallOutcome → Type 0) (job : List ℕ) (m : Lent) (c : Call k) →
    ((call_check_lem k job m c).number ≡ 0 → P (given k (job_of job) m c)) →
    (((call_check_lem k job m c).number ≡ 0 → ⊥) → P (refused k (call_check_lem k job m c) m c)) → P (outcome_of k job m c)
by_check k P job m c = both_by_check k (λ o u. P o) job job m m c c refl refl
