-- The whole outcome of ask and explain, for every input. Assumes nothing.
use Rattle.std.specs.Prelude.{ℕ, suc, ◌*◌, Bool, true, false, cond, List, [], ◌∷◌, ◌++◌, eqb, ltb, length, drop}
use Rattle.grammar.specs.Rule.{Rule}
use Rattle.job.specs.Records.{Checked}
use Rattle.job.specs.Check.{Checks, job_check, short_table, refused, accepted, or_else}
use Rattle.job.specs.Job.{Job, job_of}
use Rattle.machine.specs.Table.{Lent, Statuses, done_in, statuses, done_at_lem}
use Rattle.machine.specs.Start.{started}
use Rattle.machine.specs.Advance.{steps}
use Rattle.machine.specs.Operations.{machine_check_by}
use Rattle.bit_machine.specs.BitTable.{bit_statuses}
use Rattle.bit_machine.specs.Operations.{short_bits}
use Rattle.forms.specs.Answers.{Asked}
use Rattle.forms.specs.Answers.{Explained}
use Rattle.forms.specs.Acceptance.{is_accepted_lem, route}
use Rattle.forms.specs.Listing.{Listed, list_all_lem, records_at}

-- Refused calls, 11: the first byte over 63, at its position in the form
unfoldable pub first_over : ℕ → List ℕ → Checked
first_over i [] = accepted
first_over i (x ∷ xs) = cond (ltb 63 x) (refused 11 i) (first_over (suc i) xs)

-- Refused calls, 12 before 11: a form of more than 64 symbols, with its length
unfoldable pub form_check_lem : List ℕ → Checked
form_check_lem form = cond (ltb 64 (length form)) (refused 12 (length form)) (first_over 0 form)

-- the checks of ask past that of the lent table: the job with an I, then the form
abbrev pub ask_checks : Checks → Checked → List ℕ → List ℕ → Checked
ask_checks checks short job form = or_else (or_else short (checks true job)) (form_check_lem form)

-- Refused calls: a refused ask says no
abbrev pub ask_refused : Checked → Asked
ask_refused c = record { number = c.number; place = c.place; accepted = false }

-- what ask answers, by its checks and by whether the form is accepted
abbrev pub ask_answer : Checked → Bool → Asked
ask_answer c accepts = cond (eqb c.number 0) (record { number = 0; place = 0; accepted = accepts }) (ask_refused c)

-- Forms and listings: the form is accepted by the job's initial and final states on the transitions that a table says
-- are done
abbrev pub accepts_by : Job → Statuses → List ℕ → Bool
accepts_by J v form = is_accepted_lem J.final (done_in v) J.initial form

-- ask on a byte table: its checks, by the checks of a job
unfoldable pub ask_check_by : Checks → List ℕ → List ℕ → List ℕ → Checked
ask_check_by checks job table form = ask_checks checks (short_table table) job form

-- and by the checks of this product
abbrev pub ask_check_lem : List ℕ → List ℕ → List ℕ → Checked
ask_check_lem = ask_check_by job_check

abbrev pub accepts_on : Job → List ℕ → List ℕ → Bool
accepts_on J table form = accepts_by J (statuses table) form

-- what it answers
unfoldable pub ask_by : Checks → List ℕ → List ℕ → List ℕ → Asked
ask_by checks job table form = ask_answer (ask_check_by checks job table form) (accepts_on (job_of job) table form)

-- and by the checks of this product
abbrev pub ask_of : List ℕ → List ℕ → List ℕ → Asked
ask_of = ask_by job_check

-- The bit table: the same on a bit table
unfoldable pub ask_bits_check_by : Checks → List ℕ → List ℕ → List ℕ → Checked
ask_bits_check_by checks job bits form = ask_checks checks (short_bits bits) job form

abbrev pub ask_bits_check : List ℕ → List ℕ → List ℕ → Checked
ask_bits_check = ask_bits_check_by job_check

unfoldable pub ask_bits_by : Checks → List ℕ → List ℕ → List ℕ → Asked
ask_bits_by checks job bits form =
    ask_answer (ask_bits_check_by checks job bits form) (accepts_by (job_of job) (bit_statuses bits) form)

abbrev pub ask_bits_of : List ℕ → List ℕ → List ℕ → Asked
ask_bits_of = ask_bits_by job_check

-- the checks of explain but for 13: table and reasons, the job with an I, the form
unfoldable pub explain_check_by : Checks → List ℕ → Lent → List ℕ → Checked
explain_check_by checks job m form = or_else (machine_check_by checks job m) (form_check_lem form)

-- and by the checks of this product
abbrev pub explain_check_lem : List ℕ → Lent → List ℕ → Checked
explain_check_lem = explain_check_by job_check

-- what explain leaves: the answer, table and reasons, and the listing
pub record ExplainOutcome : Type 0 where
  pub answer : Explained
  pub lent : Lent
  pub listing : List ℕ

abbrev pub explain_leaves : Explained → Lent → List ℕ → ExplainOutcome
explain_leaves a m out = record { answer = a; lent = m; listing = out }

-- Refused calls: with a refusal the answer's count is 0 and its yes or no is no
abbrev pub explain_refused : Checked → Lent → List ℕ → ExplainOutcome
explain_refused c m out =
    explain_leaves (record { number = c.number; place = c.place; accepted = false; records = 0 }) m out

-- From papers to product: explain starts the job and runs it to the end; 65,536 steps finish any table
abbrev pub finished_from : Job → Lent → Lent
finished_from J m = steps J.rules 65536 (started J m)

-- the transitions listed for an accepted form on a finished table
unfoldable pub listed_for : Job → Lent → List ℕ → Listed
listed_for J m form =
    list_all_lem J.rules m.reasons m.table (route J.final (done_at_lem m.table) form J.initial)

-- Forms and listings: the records stand at the front of the listing buffer, which is unchanged past them. Refused
-- calls, 13: where they do not fit, table and reasons are as an explain that is not refused leaves them, and the
-- listing buffer is unchanged.
unfoldable pub explain_listed : List Rule → List ℕ → Listed → List ℕ → ExplainOutcome
explain_listed rules reasons l out =
    cond (ltb (length out) (8 * length l.places))
    (explain_refused (refused 13 (length l.places)) (record { table = l.table; reasons = reasons }) out)
    (explain_leaves (record { number = 0; place = 0; accepted = true; records = length l.places })
    (record { table = l.table; reasons = reasons })
    (records_at rules reasons l.places ++ drop (8 * length l.places) out))

-- Forms and listings: for a form that is not accepted nothing is listed or written
unfoldable pub explain_finished_lem : Job → Lent → List ℕ → List ℕ → ExplainOutcome
explain_finished_lem J m form out =
    cond (accepts_on J m.table form) (explain_listed J.rules m.reasons (listed_for J m form) out)
    (explain_leaves (record { number = 0; place = 0; accepted = false; records = 0 }) m out)

-- From papers to product: explain a form
unfoldable pub explain_by : Checks → List ℕ → Lent → List ℕ → List ℕ → ExplainOutcome
explain_by checks job m form out =
    cond (eqb (explain_check_by checks job m form).number 0)
    (explain_finished_lem (job_of job) (finished_from (job_of job) m) form out)
    (explain_refused (explain_check_by checks job m form) m out)

-- and by the checks of this product
abbrev pub explain_of : List ℕ → Lent → List ℕ → List ℕ → ExplainOutcome
explain_of = explain_by job_check
