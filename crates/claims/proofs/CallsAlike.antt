-- A call on two jobs with the same records: it is refused alike, or what it gives is alike. Both outcomes are brought
-- to one job and one check; what is left depends on the first part of what is lent. Start and explain, which begins
-- with one, make that equal whatever was there; verdicts write by the buffers' lengths alone. What is answered of a
-- table, of bytes or of bits, is read of its bytes. Assumes nothing.
use Rattle.grammar.proofs.Basics.{◌≡◌, refl, ◌∙◌, sym, ap, true, false, Bool, ◌||◌, List, ℕ, length}
use mathlib.Core.Path.{subst₂}
use Rattle.job.specs.Job.{Job, job_of}
use Rattle.job.specs.Theorems.InRange.{InRange}
use Rattle.job.proofs.AcceptedFacts.{in_range}
use Rattle.job.proofs.Clearing.{cleared_alike}
use Rattle.job.proofs.Filling.{written_alike}
use Rattle.job.proofs.JobChecks.{check_alike}
use Rattle.job.proofs.OrderFree.{accepted_same_job}
use Rattle.machine.specs.Table.{Lent, statuses, done_count_lem}
use Rattle.machine.specs.Start.{started}
use Rattle.machine.specs.Step.{is_finished}
use Rattle.machine.specs.Advance.{steps, steps_made, meetings_made}
use Rattle.machine.proofs.Steps.FirstPart.{first, finished_first, steps_made_first, meetings_made_first}
use Rattle.bit_machine.proofs.ByteTables.{bytes_done_count}
use Rattle.bit_machine.proofs.FirstBits.{bytes_alike}
use Rattle.forms.specs.Operations.{accepts_on, finished_from, explain_finished_lem}
use Rattle.forms.proofs.AskAnswers.{initial_state}
use Rattle.forms.proofs.ExplainCases.{SameListing, same_listing}
use Rattle.forms.proofs.ExplainChecks.{explain_passed}
use Rattle.forms.proofs.ExplainLaws.{first_outcome, explain_first}
use Rattle.forms.proofs.FirstListing.{can_finish_first}
use Rattle.verdicts.specs.Verdicts.{code_of}
use Rattle.verdicts.specs.Operation.{verdicts_on}
use Rattle.claims.specs.Call.{Kind, bytes, bits, Call, start, advance, ask, explain, verdicts, count, outcome_of}
use Rattle.claims.specs.Alike.{SameCall, same_start, same_advance, same_ask, same_explain, same_verdicts}
use Rattle.claims.specs.Alike.{same_count, CallAlike}
use Rattle.claims.proofs.CallChecks.{call_check_lem, call_check_alike}
use Rattle.claims.proofs.EitherTable.{check_on, ask_check_on, started_on, steps_on, read, first_part, check_passed}
use Rattle.claims.proofs.EitherTable.{ask_check_passed, read_accepts, read_alike, steps_alike, started_on_alike}
use Rattle.claims.proofs.EitherTable.{steps_on_alike}
use Rattle.claims.proofs.Outcomes.{given, both_by_check}
use Rattle.claims.proofs.SideBySide.{SideBySide, same_first, first_same, still_known, refused_alike}
use Rattle.claims.specs.Call as call

module _ (k : Kind) (a b : List ℕ) (m n : Lent) (known : Bool) (runs : SideBySide k a b m n known) where
  abbrev J : Job
  J = job_of a

  range : InRange J
  range = in_range runs.ok

  -- after a call that settles nothing
  known_first : (known || false) ≡ true → first_part k m ≡ first_part k n
  known_first h = first_same k m n (runs.alike (still_known known false refl h))

  start_alike : (check_on k a m).number ≡ 0 → CallAlike k known (given k J m start) (given k J n start)
  unfolding given
  start_alike e =
      record {
        number = refl;
        place = refl;
        always = refl;
        written = refl;
        answer = λ h. refl;
        lent = λ h.
            same_first k (started_on k J m) (started_on k J n)
            (started_on_alike m n k J runs.long (check_passed k a m e));
      }

  advance_alike : (j : ℕ) → CallAlike k known (given k J m (advance j)) (given k J n (advance j))
  unfolding given
  advance_alike j =
      record {
        number = refl;
        place = refl;
        always = tt;
        written = refl;
        answer = λ h.
            let now = read k m in
            let then = read k n in
            let p : first now ≡ first then = read_alike m n k (known_first h) in
            let ρs = J.rules in
            let r = range.rules in
            let finished = finished_first (steps ρs j now).table
            ∙ ap (λ l. is_finished (statuses l.table)) (steps_alike J range now then p j)
            ∙ sym (finished_first (steps ρs j then).table) in
            let made = steps_made_first ρs r j now ∙ ap (steps_made ρs j) p ∙ sym (steps_made_first ρs r j then) in
            let met = meetings_made_first ρs r j now ∙ ap (meetings_made ρs j) p
            ∙ sym (meetings_made_first ρs r j then) in
            λ i. call.advanced
            (record { number = 0; place = 0; finished = finished i; steps = made i; meetings = met i });
        lent = λ h.
            same_first k (steps_on k J.rules j m) (steps_on k J.rules j n)
            (steps_on_alike m n k J range runs.long j (known_first h));
      }

  ask_alike : (form : List ℕ) → (ask_check_on k a m.table form).number ≡ 0 →
      CallAlike k known (given k J m (ask form)) (given k J n (ask form))
  unfolding given
  ask_alike form e =
      let passed = ask_check_passed k a m.table form e in
      let ok = passed.job_accepted in
      let fit = passed.form_fits.symbols in
      let now = (read k m).table in
      let then = (read k n).table in
      record {
        number = refl;
        place = refl;
        always = tt;
        written = refl;
        answer = λ h. ap (λ d. call.asked (record { number = 0; place = 0; accepted = d }))
            (read_accepts m k form ok fit ∙ can_finish_first J.final now form J.initial (initial_state ok) fit
            ∙ ap (λ l. accepts_on J l.table form) (read_alike m n k (known_first h))
            ∙ sym (read_accepts n k form ok fit
            ∙ can_finish_first J.final then form J.initial (initial_state ok) fit));
        lent = λ h. runs.alike (still_known known false refl h);
      }

-- on bytes
module _ (a b : List ℕ) (m n : Lent) (known : Bool) (runs : SideBySide bytes a b m n known) where
  explain_alike : (form out other : List ℕ) → length out ≡ length other →
      (call_check_lem bytes a m (explain form out)).number ≡ 0 →
      CallAlike bytes known (given bytes (job_of a) m (explain form out)) (given bytes (job_of a) n (explain form other))
  unfolding given call_check_lem
  explain_alike form out other same e =
      let (passed, fits) = explain_passed a m form _ refl e in
      let J = job_of a in
      let range = in_range runs.ok in
      let initial = initial_state passed.ok in
      let fit = fits.symbols in
      let now = finished_from J m in
      let then = finished_from J n in
      let starts = started_on_alike m n bytes {job = a} J runs.long
      (record { long = passed.long; long_reasons = passed.long_reasons; ok = passed.ok }) in
      let s : SameListing (first_outcome (explain_finished_lem J now form out))
      (first_outcome (explain_finished_lem J then form other)) =
      subst₂ SameListing (sym (explain_first J range initial form fit now out))
      (ap (λ l. explain_finished_lem J l form other) (steps_alike J range (started J m) (started J n) starts 65536)
      ∙ sym (explain_first J range initial form fit then other))
      (same_listing J (first now) form out other same) in
      record {
        number = ap (λ x. x.number) s.answer;
        place = ap (λ x. x.place) s.answer;
        always = ap call.explained s.answer;
        written = s.written;
        answer = λ h. ap call.explained s.answer;
        lent = λ h.
            same_first bytes (explain_finished_lem J now form out).lent (explain_finished_lem J then form other).lent
            s.lent;
      }

  verdicts_alike : (codes other : List ℕ) → length codes ≡ length other →
      CallAlike bytes known (given bytes (job_of a) m (verdicts codes)) (given bytes (job_of a) n (verdicts other))
  unfolding given verdicts_on
  verdicts_alike codes other same =
      record {
        number = refl;
        place = refl;
        always = refl;
        written = written_alike (code_of (job_of a).rules (job_of a).start) 0 64 codes other same;
        answer = λ h. refl;
        lent = λ h.
            record {
              table = cleared_alike 65536 m.table n.table runs.long.table;
              reasons = (runs.alike (still_known known false refl h)).reasons;
            };
      }

-- on bits
count_alike : (a b : List ℕ) (m n : Lent) (known : Bool) → SideBySide bits a b m n known →
    CallAlike bits known (given bits (job_of a) m count) (given bits (job_of a) n count)
unfolding given
count_alike a b m n known runs =
    record {
      number = refl;
      place = refl;
      always = tt;
      written = refl;
      answer = λ h. ap (λ d. call.counted (record { number = 0; place = 0; count = d }))
          (bytes_done_count m.table
          ∙ ap (λ t. done_count_lem (statuses t)) (bytes_alike m n (known_first bits a b m n known runs h))
          ∙ sym (bytes_done_count n.table));
      lent = λ h. runs.alike (still_known known false refl h);
    }

given_alike :
    (k : Kind) (a b : List ℕ) (m n : Lent) (known : Bool) → SideBySide k a b m n known → {c d : Call k} →
    SameCall k c d → (call_check_lem k a m c).number ≡ 0 → CallAlike k known (given k (job_of a) m c) (given k (job_of a) n d)
unfolding call_check_lem
given_alike k a b m n known runs same_start e = start_alike k a b m n known runs e
given_alike k a b m n known runs (same_advance j) e = advance_alike k a b m n known runs j
given_alike k a b m n known runs (same_ask form) e = ask_alike k a b m n known runs form e
given_alike bytes a b m n known runs (same_explain form out other same) e =
    explain_alike a b m n known runs form out other same e
given_alike bytes a b m n known runs (same_verdicts codes other same) e =
    verdicts_alike a b m n known runs codes other same
given_alike bits a b m n known runs same_count e = count_alike a b m n known runs

module _ (k : Kind) (a b : List ℕ) (m n : Lent) (known : Bool) (runs : SideBySide k a b m n known) where
  pub call_alike : {c d : Call k} → SameCall k c d → CallAlike k known (outcome_of k a m c) (outcome_of k b n d)
  call_alike {c} {d} same =
      both_by_check k (CallAlike k known) a b m n c d
      (call_check_alike k a b (λ needed. check_alike needed runs.records runs.ok) m n runs.long same)
      (accepted_same_job runs.records runs.ok) (given_alike k a b m n known runs same)
      (refused_alike k a b m n known runs same)
