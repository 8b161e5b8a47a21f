-- Demand 3 as one claim about whole lists of calls. Assumes nothing.
use Rattle.std.specs.Prelude.{◌≡◌, ℕ, Bool, true, false, List, []}
use Rattle.job.specs.Check.{job_check, accepted}
use Rattle.job.specs.Job.{job_of}
use Rattle.job.specs.Order.{SameRecords}
use Rattle.job.specs.Show.{shown_of}
use Rattle.machine.specs.Table.{Lent}
use Rattle.machine.specs.Smallest.{SmallestCount}
use Rattle.claims.specs.Call.{Kind, Call, run_of}
use Rattle.claims.specs.Alike.{SameCalls, SameLengths, SameFirst, TraceAlike, Unwritten}
use Rattle.claims.specs.Counts.{Counted, idle}

-- what holds of the two runs of the calls cs on the job a and ds on the job b
pub record RunsAgree (k : Kind) (a b : List ℕ) (m n : Lent) (cs ds : List (Call k)) (known : Bool) : Type 0 where
  pub alike : TraceAlike k known (run_of k a m cs) (run_of k b n ds)
  pub kept_first : Unwritten k m cs (run_of k a m cs)
  pub kept_second : Unwritten k n ds (run_of k b n ds)
  pub transitions : ℕ
  pub smallest : SmallestCount (job_of a) transitions
  pub counts_first : Counted k (job_of a) transitions idle cs (run_of k a m cs)
  pub counts_second : Counted k (job_of b) transitions idle ds (run_of k b n ds)
  pub shown_first : shown_of a ≡ []
  pub shown_second : shown_of b ≡ []

-- The demands, 3: on tables of bytes and of bits, for every accepted job given twice, its records in different orders,
-- every pair of lent memories of equal lengths and every list of calls made alike in both runs, refused ones included,
-- the runs are alike. Accepted is by the verdicts' checks; `known` says that both runs begin with the same first part.
unfoldable pub TwoRuns : Type 0
TwoRuns =
    (k : Kind) (a b : List ℕ) → job_check false a ≡ accepted → SameRecords a b → (m n : Lent) → SameLengths m n →
    (cs ds : List (Call k)) → SameCalls k cs ds → (known : Bool) →
    (known ≡ true → SameFirst k m n) → RunsAgree k a b m n cs ds known
