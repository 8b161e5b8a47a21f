-- A report that is not refused runs through: start and the steps keep the lengths of what is lent, so the checks of
-- each call pass as those of the report do. Assumes nothing.
use Rattle.grammar.proofs.Basics.{◌≡◌, refl, ◌∙◌, sym, ap, true, false, Bool, List, ◌∷◌, [], ℕ, zero, suc, ◌≤◌, arith, length}
use Rattle.grammar.proofs.Basics.{eq-eqb, le-ltb}
use Rattle.job.specs.Records.{Checked}
use Rattle.job.specs.Accepted.{Accepted}
use Rattle.job.specs.Job.{field_of, job_of}
use Rattle.job.proofs.Accepted.{accepted_check}
use Rattle.job.specs.Format.{byte_s, records_of}
use Rattle.job.proofs.AcceptedFacts.{start_below, job_start}
use Rattle.job.proofs.CallChecks.{both_pass, long_enough, call_passed}
use Rattle.machine.specs.Table.{Lent, lent_of, table_size, reasons_size, statuses}
use Rattle.machine.specs.Step.{is_finished}
use Rattle.machine.specs.Start.{started}
use Rattle.machine.specs.Advance.{steps, steps_made, meetings_made}
use Rattle.machine.specs.Operations.{machine_check_lem, machine_check_by, start_of, start_by, start_leaves, advance_of, advance_by, advance_leaves}
use Rattle.machine.proofs.Starts.StartLaws.{started_length, started_length_reasons}
use Rattle.machine.proofs.Steps.StepLaws.{steps_long, finishes}
use Rattle.forms.specs.Operations.{first_over, form_check_lem, ask_check_lem, ask_check_by, accepts_by, accepts_on, ask_of, ask_by}
use Rattle.forms.specs.Acceptance.{SymbolsFit}
use Rattle.bit_machine.specs.BitTable.{bit_statuses}
use Rattle.forms.specs.Inside.AcceptanceParts.{FormFits}
use Rattle.forms.specs.Inside.ExplainParts.{BitsSay}
use Rattle.forms.proofs.AskAnswers.{accepts_alike}
use Rattle.verdicts.specs.Operation.{VerdictsOutcome, verdicts_check_lem, verdicts_check_by, verdicts_on, verdicts_of}
use Rattle.verdicts.proofs.Outcome.{verdicts_given}
use Rattle.reports.specs.Operation.{report_check_lem, report_leaves, report_on, run_to_end}
use Rattle.reports.proofs.Outcome.{composed}
use Rattle.reports.specs.Theorems.{RunsThrough}

-- what the checks of the report make sure of
pub record Passed (job : List ℕ) (m : Lent) (codes : List ℕ) : Type 0 where
  pub long : table_size ≤ length m.table
  pub long_reasons : reasons_size ≤ length m.reasons
  pub long_codes : 64 ≤ length codes
  pub ok : Accepted true job

pub report_passed : (job : List ℕ) (m : Lent) (codes : List ℕ) → (report_check_lem job m codes).number ≡ 0 → Passed job m codes
unfolding report_check_lem
report_passed job m codes e =
    let (short, ok) = call_passed _ true job e in
    let (lent, c) = both_pass _ _ short in
    let (t, rs) = both_pass _ _ lent in
    record {
      long = long_enough _ _ _ t;
      long_reasons = long_enough _ _ _ rs;
      long_codes = long_enough _ _ _ c;
      ok = ok;
    }

pub checks_passed : {job : List ℕ} {m : Lent} {codes : List ℕ} {c : Checked} → c ≡ report_check_lem job m codes →
    c.number ≡ 0 → Passed job m codes
checks_passed {job} {m} {codes} checked none = report_passed job m codes (rw checked at none)

-- the start symbol is read, and is a form that fits
start_symbol : (job : List ℕ) {S : ℕ} → S ≡ field_of byte_s (records_of job) → S ≡ (job_of job).start
start_symbol job read = read ∙ sym (job_start job)

pub start_fits : {job : List ℕ} → Accepted true job → {S : ℕ} → S ≡ field_of byte_s (records_of job) → FormFits (S ∷ [])
start_fits {job} ok {S} read = record { short = omega arith; symbols = fits }
  where
    below : S ≤ 63
    below = omega (arith, start_symbol job read, start_below ok)

    fits : SymbolsFit (S ∷ [])
    fits zero l = below
    fits (suc i) l = absurd (omega arith)

-- it is accepted on bits as on the table that says the same
pub start_accepted : {job : List ℕ} → Accepted true job → {S : ℕ} → S ≡ field_of byte_s (records_of job) →
    (bits table : List ℕ) → BitsSay bits table → {start : Bool} →
    start ≡ accepts_by (job_of job) (bit_statuses bits) (S ∷ []) →
    start ≡ accepts_on (job_of job) table ((job_of job).start ∷ [])
start_accepted {job} ok {S} read bits table same e =
    e ∙ accepts_alike bits table (S ∷ []) ok same (start_fits ok read).symbols
    ∙ ap (λ X. accepts_on (job_of job) table (X ∷ [])) (start_symbol job read)

-- a job with an I is accepted where none is needed
without_need : {job : List ℕ} → Accepted true job → Accepted false job
without_need ok =
    record {
      within = ok.within;
      whole = ok.whole;
      known = ok.known;
      fitting = ok.fitting;
      distinct = ok.distinct;
      one_start = ok.one_start;
      one_initial = ok.one_initial;
      initial_if_needed = λ e. ok.initial_if_needed refl;
      few_rules = ok.few_rules;
    }

module _ (job : List ℕ) (ok : Accepted true job) where
  machine_passes : (m : Lent) → table_size ≤ length m.table → reasons_size ≤ length m.reasons
      → (machine_check_lem job m).number ≡ 0
  unfolding machine_check_by
  machine_passes m t r =
      rw (le-ltb (length m.table) table_size t, le-ltb (length m.reasons) reasons_size r, accepted_check ok)

  form_passes : (form_check_lem ((job_of job).start ∷ [])).number ≡ 0
  unfolding form_check_lem first_over
  form_passes =
      let below : (job_of job).start ≤ 63 = omega (arith, start_below ok) in
      rw (le-ltb 63 (job_of job).start below)

  ask_is : (table : List ℕ) → table_size ≤ length table → ask_of job table ((job_of job).start ∷ [])
      ≡ record { number = 0; place = 0; accepted = accepts_on (job_of job) table ((job_of job).start ∷ []) }
  unfolding ask_by ask_check_by
  ask_is table long =
      let form = (job_of job).start ∷ [] in
      let z : (ask_check_lem job table form).number ≡ 0 =
      rw (le-ltb (length table) table_size long, accepted_check ok) form_passes in
      rw (eq-eqb (ask_check_lem job table form).number 0 z)

  pub verdicts_pass : (table codes : List ℕ) → table_size ≤ length table → 64 ≤ length codes →
      (verdicts_check_lem job table codes).number ≡ 0
  unfolding verdicts_check_by
  verdicts_pass table codes long enough =
      rw (le-ltb (length table) 65536 long, le-ltb (length codes) 64 enough, accepted_check (without_need ok))

  verdicts_number : (table codes : List ℕ) → table_size ≤ length table → 64 ≤ length codes →
      (verdicts_of job table codes).answer.number ≡ 0
  unfolding verdicts_on
  verdicts_number table codes long enough =
      ap (λ o. o.answer.number) (verdicts_given job table codes (verdicts_pass table codes long enough))

module _ (job : List ℕ) (m : Lent) (z : (machine_check_lem job m).number ≡ 0) where
  -- the outcomes of start and advance
  start_is : start_of job m
      ≡ start_leaves (record { number = 0; place = 0; states = (job_of job).states }) (started (job_of job) m)
  unfolding start_by
  start_is = rw (eq-eqb (machine_check_lem job m).number 0 z)

  module _ (n : ℕ) where
    advance_is : advance_of job m n
        ≡ advance_leaves
        (record {
          number = 0;
          place = 0;
          finished = is_finished (statuses (steps (job_of job).rules n m).table);
          steps = steps_made (job_of job).rules n m;
          meetings = meetings_made (job_of job).rules n m;
        }) (steps (job_of job).rules n m)
    unfolding advance_by
    advance_is = rw (eq-eqb (machine_check_lem job m).number 0 z)

    advance_finished : table_size ≤ length m.table → table_size ≤ n → (advance_of job m n).answer.finished ≡ true
    advance_finished long enough = rw advance_is (finishes (job_of job).rules n m long enough)

-- what each of the four calls of a report works on
module _ {job : List ℕ} {m : Lent} {codes : List ℕ} (p : Passed job m codes) where
  abbrev pub begun : Lent
  begun = started (job_of job) m

  abbrev pub ended : Lent
  ended = steps (job_of job).rules 65536 begun

  pub begun_long : table_size ≤ length begun.table
  begun_long = rw (started_length (job_of job) m) p.long

  pub ended_long : table_size ≤ length ended.table
  ended_long = steps_long (job_of job).rules 65536 begun begun_long

  machine_first : (machine_check_lem job m).number ≡ 0
  machine_first = machine_passes job p.ok m p.long p.long_reasons

  machine_second : (machine_check_lem job begun).number ≡ 0
  machine_second =
      machine_passes job p.ok begun begun_long (rw (started_length_reasons (job_of job) m) p.long_reasons)

  -- so what they leave is a report, where each value is the one that the definitions give
  pub report_ran : {states made met : ℕ} {start : Bool} {m' : Lent} {v : VerdictsOutcome} →
      states ≡ (job_of job).states → m' ≡ ended → made ≡ steps_made (job_of job).rules 65536 begun →
      met ≡ meetings_made (job_of job).rules 65536 begun →
      start ≡ accepts_on (job_of job) m'.table ((job_of job).start ∷ []) → v ≡ verdicts_of job m'.table codes →
      report_leaves
      (record {
        number = 0;
        place = 0;
        states = states;
        examined = made;
        joins = met;
        start = start;
        empty = v.answer.empty;
        growing = v.answer.growing;
      }) (lent_of v.table m'.reasons) v.codes
      ≡ report_on job m codes
  report_ran {start = start} {m'} states lent made met accepts judged =
      composed job m codes
      ((λ i. start_leaves (record { number = 0; place = 0; states = states i }) begun)
      ∙ sym (start_is job m machine_first))
      ((λ i. advance_leaves
      (record {
        number = 0;
        place = 0;
        finished = is_finished (statuses ended.table);
        steps = made i;
        meetings = met i;
      }) (lent i))
      ∙ sym (advance_is job begun machine_second 65536)) refl
      ((λ i. record { number = 0; place = 0; accepted = accepts i })
      ∙ sym (ask_is job p.ok m'.table (rw lent ended_long))) judged

pub runs_through :
    (job : List ℕ) (m : Lent) (codes : List ℕ) → (report_check_lem job m codes).number ≡ 0 → RunsThrough job m codes
unfolding run_to_end
runs_through job m codes e =
    let p = report_passed job m codes e in
    let first = start_is job m (machine_first p) in
    let second = advance_is job (begun p) (machine_second p) 65536 in
    record {
      started = rw first;
      advanced = rw (first, second);
      finished = rw first (advance_finished job (begun p) (machine_second p) 65536 (begun_long p) (omega arith));
      asked = rw (first, second, ask_is job p.ok (ended p).table (ended_long p));
      judged = rw (first, second) (verdicts_number job p.ok (ended p).table codes (ended_long p) p.long_codes);
    }
