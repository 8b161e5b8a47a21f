-- Both kinds of table, brought to the machine on bytes: a table is read as the byte table that says the same, and what
-- start and steps leave, read again, is what the machine makes of it. Both write the first part of what is lent alone,
-- by what stands there. Assumes nothing.
use Rattle.grammar.proofs.Basics.{◌≡◌, refl, ◌∙◌, sym, ap, true, cond, List, ℕ, ◌<◌, ◌≤◌, arith, eqb, length, le-ltb}
use Rattle.grammar.specs.Rule.{Rule}
use Rattle.job.specs.Records.{Checked}
use Rattle.job.specs.Accepted.{Accepted}
use Rattle.job.specs.Check.{job_check, accepted}
use Rattle.job.specs.Job.{Job, job_of}
use Rattle.job.specs.Theorems.InRange.{InRange}
use Rattle.machine.specs.Table.{Lent, KeepsRest, table_size, reasons_size, statuses}
use Rattle.machine.specs.Start.{started}
use Rattle.machine.specs.Step.{is_finished}
use Rattle.machine.specs.Advance.{steps, steps_made, meetings_made}
use Rattle.machine.specs.Operations.{machine_check_lem, machine_check_by, start_leaves, start_refused, start_by, AdvanceOutcome}
use Rattle.machine.specs.Operations.{advance_refused, advance_by}
use Rattle.machine.proofs.MachineChecks.{machine_passed}
use Rattle.machine.proofs.Starts.StartLaws.{started_keeps_rest}
use Rattle.machine.proofs.Steps.FirstPart.{first_of, first, started_alike, steps_first}
use Rattle.machine.proofs.Steps.StepLaws.{steps_keep_rest}
use Rattle.bit_machine.specs.Machine.{as_bytes, started_bits, steps_bits}
use Rattle.bit_machine.specs.Operations.{bits_check_lem, bits_check_by, start_bits_by, advance_bits_by}
use Rattle.bit_machine.proofs.BitSteps.{steps_bytes}
use Rattle.bit_machine.proofs.ByteTables.{bytes_length, bytes_say}
use Rattle.bit_machine.proofs.FirstBits.{started_bytes, started_bits_keep, steps_bits_keep, as_bytes_alike}
use Rattle.bit_machine.proofs.FirstBits.{started_bits_alike, steps_bits_alike}
use Rattle.bit_machine.proofs.RunChecks.{bits_passed}
use Rattle.forms.specs.Acceptance.{SymbolsFit}
use Rattle.forms.specs.Operations.{accepts_by, accepts_on, ask_answer, ask_check_lem, ask_check_by, ask_by, ask_bits_check}
use Rattle.forms.specs.Operations.{ask_bits_check_by, ask_bits_by, form_check_lem}
use Rattle.forms.proofs.AskAnswers.{accepts_alike}
use Rattle.forms.proofs.FormChecks.{AskPassed, ask_passed}
use Rattle.claims.specs.Call.{Kind, bytes, bits, size_of, says_of, start_on, advance_on, ask_on}
use Rattle.claims.specs.Alike.{SameLengths}

-- the checks of start and advance, and of ask
abbrev pub check_on : Kind → List ℕ → Lent → Checked
check_on bytes = machine_check_lem
check_on bits = bits_check_lem

abbrev pub ask_check_on : Kind → List ℕ → List ℕ → List ℕ → Checked
ask_check_on bytes = ask_check_lem
ask_check_on bits = ask_bits_check

-- what start and steps make of what is lent, and the byte table that says the same
abbrev pub started_on : Kind → Job → Lent → Lent
started_on bytes = started
started_on bits = started_bits

abbrev pub steps_on : Kind → List Rule → ℕ → Lent → Lent
steps_on bytes = steps
steps_on bits = steps_bits

abbrev pub read : Kind → Lent → Lent
read bytes m = m
read bits m = as_bytes m

-- the operations by these
pub start_is : (k : Kind) (job : List ℕ) (m : Lent) →
    start_on k job_check job m
    ≡ cond (eqb (check_on k job m).number 0)
    (start_leaves (record { number = 0; place = 0; states = (job_of job).states }) (started_on k (job_of job) m))
    (start_refused (check_on k job m) m)
unfolding start_by start_bits_by
start_is bytes job m = refl
start_is bits job m = refl

pub advance_is : (k : Kind) (job : List ℕ) (m : Lent) (n : ℕ) →
    ◌≡◌ {A = AdvanceOutcome} (advance_on k job_check job m n)
    (cond (eqb (check_on k job m).number 0)
    (record {
      answer =
          record {
            number = 0;
            place = 0;
            finished = is_finished (statuses (steps (job_of job).rules n (read k m)).table);
            steps = steps_made (job_of job).rules n (read k m);
            meetings = meetings_made (job_of job).rules n (read k m);
          };
      lent = steps_on k (job_of job).rules n m;
    })
    (advance_refused (check_on k job m) m))
unfolding advance_by advance_bits_by
advance_is bytes job m n = refl
advance_is bits job m n = refl

pub ask_is : (k : Kind) (job table form : List ℕ) →
    ask_on k job_check job table form
    ≡ ask_answer (ask_check_on k job table form) (accepts_by (job_of job) (says_of k table) form)
unfolding ask_by ask_bits_by
ask_is bytes job table form = refl
ask_is bits job table form = refl

-- the checks depend on lengths and on the check of the job
pub check_on_alike : (k : Kind) (a b : List ℕ) → job_check true a ≡ job_check true b → (m n : Lent) → SameLengths m n →
    check_on k a m ≡ check_on k b n
unfolding machine_check_by bits_check_by
check_on_alike bytes a b e m n long = rw (long.table, long.reasons, e)
check_on_alike bits a b e m n long = rw (long.table, long.reasons, e)

pub ask_check_alike : (k : Kind) (a b : List ℕ) → job_check true a ≡ job_check true b → (t u form : List ℕ) →
    length t ≡ length u → ask_check_on k a t form ≡ ask_check_on k b u form
unfolding ask_check_by ask_bits_check_by
ask_check_alike bytes a b e t u form long = rw (long, e)
ask_check_alike bits a b e t u form long = rw (long, e)

-- what a call works on that they pass
pub record Passed (k : Kind) (job : List ℕ) (m : Lent) : Type 0 where
  pub long : size_of k ≤ length m.table
  pub long_reasons : reasons_size ≤ length m.reasons
  pub ok : Accepted true job

pub check_passed : (k : Kind) (job : List ℕ) (m : Lent) → (check_on k job m).number ≡ 0 → Passed k job m
check_passed bytes job m e =
    let p = machine_passed job m _ refl e in
    record { long = p.long; long_reasons = p.long_reasons; ok = p.ok }
check_passed bits job m e =
    let p = bits_passed job m _ refl e in
    record { long = p.long; long_reasons = p.long_reasons; ok = p.ok }

pub ask_check_passed : (k : Kind) (job table form : List ℕ) → (ask_check_on k job table form).number ≡ 0 →
    AskPassed (length table) (size_of k) job form
unfolding ask_check_by ask_bits_check_by
ask_check_passed bytes job table form e = ask_passed (length table) (size_of bytes) job form e
ask_check_passed bits job table form e = ask_passed (length table) (size_of bits) job form e

pub ask_check_accepts : (k : Kind) (job table form : List ℕ) → size_of k ≤ length table → job_check true job ≡ accepted →
    form_check_lem form ≡ accepted → ask_check_on k job table form ≡ accepted
unfolding ask_check_by ask_bits_check_by
ask_check_accepts bytes job table form long ok fits = rw (le-ltb (length table) (size_of bytes) long, ok, fits)
ask_check_accepts bits job table form long ok fits = rw (le-ltb (length table) (size_of bits) long, ok, fits)

-- a table as it is read
module _ (m : Lent) where
  pub read_long : (k : Kind) → size_of k ≤ length m.table → table_size ≤ length (read k m).table
  read_long bytes long = long
  read_long bits long = omega (arith, bytes_length m.table)

  pub read_reasons : (k : Kind) → (read k m).reasons ≡ m.reasons
  read_reasons bytes = refl
  read_reasons bits = refl

  pub read_says : (k : Kind) (p : ℕ) → p < table_size → statuses (read k m).table p ≡ says_of k m.table p
  read_says bytes p l = refl
  read_says bits p l = bytes_say m.table p l

  pub read_accepts : (k : Kind) {job : List ℕ} (form : List ℕ) → Accepted true job → SymbolsFit form →
      accepts_by (job_of job) (says_of k m.table) form ≡ accepts_on (job_of job) (read k m).table form
  read_accepts bytes form ok fit = refl
  read_accepts bits form ok fit =
      accepts_alike m.table (as_bytes m).table form ok (λ p l. sym (bytes_say m.table p l)) fit

  -- what start and steps leave
  pub started_read : (k : Kind) (J : Job) → size_of k ≤ length m.table →
      read k (started_on k J m) ≡ started J (read k m)
  started_read bytes J long = refl
  started_read bits J long = started_bytes J m long

  pub steps_read : (k : Kind) (ρs : List Rule) (n : ℕ) → size_of k ≤ length m.table →
      read k (steps_on k ρs n m) ≡ steps ρs n (read k m)
  steps_read bytes ρs n long = refl
  steps_read bits ρs n long = steps_bytes ρs m long n

  pub started_keeps : (k : Kind) (J : Job) → KeepsRest (size_of k) m (started_on k J m)
  started_keeps bytes J = started_keeps_rest J m
  started_keeps bits J = started_bits_keep J m

  pub steps_keeps : (k : Kind) (ρs : List Rule) (n : ℕ) → KeepsRest (size_of k) m (steps_on k ρs n m)
  steps_keeps bytes ρs n = steps_keep_rest ρs n m
  steps_keeps bits ρs n = steps_bits_keep ρs n m

-- the first part of what is lent
abbrev pub first_part : Kind → Lent → Lent
first_part k = first_of (size_of k)

pub steps_alike : (J : Job) → InRange J → (m n : Lent) → first m ≡ first n → (k : ℕ) →
    first (steps J.rules k m) ≡ first (steps J.rules k n)
steps_alike J range m n p k =
    steps_first J.rules range.rules k m ∙ ap (steps J.rules k) p
    ∙ sym (steps_first J.rules range.rules k n)

module _ (m n : Lent) where
  -- tables with one first part are read alike there
  pub read_alike : (k : Kind) → first_part k m ≡ first_part k n → first (read k m) ≡ first (read k n)
  read_alike bytes e = e
  read_alike bits e = as_bytes_alike m n e

  -- a start writes all of it, whatever was there
  pub started_on_alike : (k : Kind) {job : List ℕ} (J : Job) → SameLengths m n → Passed k job m →
      first_part k (started_on k J m) ≡ first_part k (started_on k J n)
  started_on_alike bytes J long p =
      started_alike J m n p.long (omega (arith, p.long, long.table)) p.long_reasons
      (omega (arith, p.long_reasons, long.reasons))
  started_on_alike bits J long p =
      started_bits_alike m n long.table J p.long_reasons (omega (arith, p.long_reasons, long.reasons))

  -- and steps go by what stands there
  pub steps_on_alike : (k : Kind) (J : Job) → InRange J → SameLengths m n → (j : ℕ) → first_part k m ≡ first_part k n →
      first_part k (steps_on k J.rules j m) ≡ first_part k (steps_on k J.rules j n)
  steps_on_alike bytes J range long j e = steps_alike J range m n e j
  steps_on_alike bits J range long j e = steps_bits_alike m n long.table J.rules range.rules j e
