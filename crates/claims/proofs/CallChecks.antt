-- The check of a call depends on the lengths of what is lent and on the check of the job, so it is the same in both
-- runs and all along a run. Assumes nothing.
use Rattle.grammar.proofs.Basics.{◌≡◌, true, false, Bool, List, ℕ, ◌≤◌, arith, eqb, ltb, length, cases}
use Rattle.job.specs.Records.{Checked}
use Rattle.job.specs.Check.{job_check, short_buffer_lem, short_table, short_reasons, or_else}
use Rattle.job.specs.Accepted.{Accepted}
use Rattle.job.proofs.JobChecks.{check_number}
use Rattle.machine.specs.Table.{Lent, table_size, reasons_size}
use Rattle.machine.specs.Operations.{machine_check_by}
use Rattle.bit_machine.specs.Operations.{short_bits}
use Rattle.forms.specs.Operations.{form_check_lem, explain_check_lem, explain_check_by}
use Rattle.forms.proofs.FormChecks.{form_number}
use Rattle.verdicts.specs.Operation.{verdicts_check_lem, verdicts_check_by}
use Rattle.claims.specs.Call.{Kind, bytes, bits, Call, start, advance, ask, explain, verdicts, count}
use Rattle.claims.specs.Alike.{SameLengths, SameCall, same_start, same_advance, same_ask, same_explain}
use Rattle.claims.specs.Alike.{same_verdicts, same_count}
use Rattle.claims.proofs.EitherTable.{check_on, ask_check_on, check_on_alike, ask_check_alike}

-- the check of a call
unfoldable pub call_check_lem : (k : Kind) → List ℕ → Lent → Call k → Checked
call_check_lem k job m start = check_on k job m
call_check_lem k job m (advance n) = check_on k job m
call_check_lem k job m (ask form) = ask_check_on k job m.table form
call_check_lem bytes job m (explain form listing) = explain_check_lem job m form
call_check_lem bytes job m (verdicts codes) = verdicts_check_lem job m.table codes
call_check_lem bits job m count = short_bits m.table

pub call_check_alike :
    (k : Kind) (a b : List ℕ) → ((needed : Bool) → job_check needed a ≡ job_check needed b) → (m n : Lent) →
    SameLengths m n → {c d : Call k} → SameCall k c d → call_check_lem k a m c ≡ call_check_lem k b n d
unfolding call_check_lem machine_check_by explain_check_by verdicts_check_by
call_check_alike k a b e m n long same_start = check_on_alike k a b (e true) m n long
call_check_alike k a b e m n long (same_advance j) = check_on_alike k a b (e true) m n long
call_check_alike k a b e m n long (same_ask form) =
    ask_check_alike k a b (e true) m.table n.table form long.table
call_check_alike bytes a b e m n long (same_explain form out other same) = rw (long.table, long.reasons, e true)
call_check_alike bytes a b e m n long (same_verdicts codes other same) = rw (long.table, same, e false)
call_check_alike bits a b e m n long same_count = rw long.table

-- the refusals of explain's checks come before 13
either_number : (k : ℕ) (c d : Checked) → c.number ≤ k → d.number ≤ k → (or_else c d).number ≤ k
either_number k c d a b = cases (eqb c.number 0) (λ t. rw t b) (λ t. rw t a)

short_number : (long needed place : ℕ) → (short_buffer_lem long needed place).number ≤ 12
short_number long needed place = cases (ltb long needed) (λ t. rw t (omega arith)) (λ t. rw t (omega arith))

pub explain_number :
    (job : List ℕ) (m : Lent) (form : List ℕ) → Accepted false job → (explain_check_lem job m form).number ≤ 12
unfolding explain_check_by machine_check_by
explain_number job m form ok =
    let short = or_else (short_table m.table) (short_reasons m.reasons) in
    either_number 12 (or_else short (job_check true job)) (form_check_lem form)
    (either_number 12 short (job_check true job)
    (either_number 12 (short_table m.table) (short_reasons m.reasons)
    (short_number (length m.table) table_size 1) (short_number (length m.reasons) reasons_size 2))
    (omega (arith, check_number true ok)))
    (form_number form)
