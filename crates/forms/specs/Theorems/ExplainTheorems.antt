-- What explain lists: the theorems on listings hold of what it leaves and writes, with nothing assumed of the table.
-- The statement is the contract of a function of src/listing_theorems.rt, so it is proved. Assumes nothing.
use Rattle.std.specs.Prelude.{◌≡◌, true, List, ℕ, length}
use Rattle.job.specs.Job.{Job, job_of}
use Rattle.machine.specs.Table.{Lent, done_at_lem}
use Rattle.machine.specs.Theorems.Entries.{AbsentHaveNone}
use Rattle.forms.specs.Acceptance.{route}
use Rattle.forms.specs.Operations.{accepts_on, explain_check_lem, ExplainOutcome, finished_from, listed_for, explain_of}
use Rattle.forms.specs.Theorems.ListingTheorems.{Listable, IsListing, RecordsSay}

-- what explain leaves for a form that is accepted on the finished table m: a listing of the form's route, whose marks
-- are on the table and whose records, unless they do not fit (13), are written and counted
pub record Explains (J : Job) (m : Lent) (form : List ℕ) (left : ExplainOutcome) : Type 0 where
  pub listable :
      Listable J.rules m.reasons m.table (route J.final (done_at_lem m.table) form J.initial)
  pub listing :
      IsListing J.rules m.reasons m.table (route J.final (done_at_lem m.table) form J.initial)
      (listed_for J m form)
  pub table : left.lent.table ≡ (listed_for J m form).table
  pub reasons : left.lent.reasons ≡ m.reasons
  pub counted : left.answer.number ≡ 0 → left.answer.records ≡ length (listed_for J m form).places
  pub records :
      left.answer.number ≡ 0 →
      RecordsSay J.rules J.given J.states m.reasons (listed_for J m form).places left.listing

-- for every explain that is not refused by 1 to 12, where the form is accepted
unfoldable pub ExplainLists : Type 0
ExplainLists =
    (job : List ℕ) (m : Lent) (form out : List ℕ) → (explain_check_lem job m form).number ≡ 0 →
    accepts_on (job_of job) (finished_from (job_of job) m).table form ≡ true →
    Explains (job_of job) (finished_from (job_of job) m) form (explain_of job m form out)

-- Table and machine: as an explain starts and runs, what is absent after it has no entry, whether the form is accepted
-- or not, and refused by 13 or not
unfoldable pub ExplainAbsentHaveNone : Type 0
ExplainAbsentHaveNone =
    (job : List ℕ) (m : Lent) (form out : List ℕ) → (explain_check_lem job m form).number ≡ 0 →
    AbsentHaveNone (explain_of job m form out).lent
