-- What explain works on once a job is started and run to the end. Assumes nothing.
use Rattle.std.specs.Prelude.{◌≡◌, true, false, List, ℕ, ◌<◌, length, take}
use Rattle.job.specs.Accepted.{Accepted}
use Rattle.job.specs.Job.{job_of}
use Rattle.machine.specs.Table.{Lent, table_size, statuses, done_at_lem}
use Rattle.bit_machine.specs.BitTable.{bit_statuses}
use Rattle.forms.specs.Acceptance.{route}
use Rattle.forms.specs.Listing.{is_listed}
use Rattle.forms.specs.Operations.{accepts_on}
use Rattle.forms.specs.Inside.ListingParts.{CanList}

-- an accepted job's table and reasons, of full size, whose reasons lead down and where nothing is listed
pub record Explainable (job : List ℕ) (m : Lent) : Type 0 where
  pub job_accepted : Accepted true job
  pub listable : CanList (job_of job).rules m.reasons m.table
  pub none_listed : (p : ℕ) → p < table_size → is_listed m.table p ≡ false

-- a bit table says of each place what a byte table says
abbrev pub BitsSay : List ℕ → List ℕ → Type 0
BitsSay bits table = (p : ℕ) → p < table_size → bit_statuses bits p ≡ statuses table p

-- the form is accepted, and the first places are those of its route
pub record OnRoute (job table form places : List ℕ) : Type 0 where
  pub accepts : accepts_on (job_of job) table form ≡ true
  pub along :
      take (length form) places ≡ route (job_of job).final (done_at_lem table) form (job_of job).initial
