-- What a wider table of classes leaves as it was, as one claim about whole lists of calls. Assumes nothing.
use Rattle.std.specs.Prelude.{◌≡◌, Bool, false, List, [], ℕ}
use Rattle.job.specs.Format.{ClassTable}
use Rattle.job.specs.Check.{Checks, check_of, full_limits, job_check, accepted}
use Rattle.job.specs.Job.{job_of}
use Rattle.job.specs.Show.{shown_of}
use Rattle.job.specs.Theorems.WiderClasses.{Within, variable_pairs}
use Rattle.machine.specs.Table.{Lent}
use Rattle.claims.specs.Call.{Kind, Call, run_by, run_of}

-- The job, the narrower table: past the checks, what a list of calls gives depends on the canonical job alone
abbrev pub ByCanonicalJob : Type 0
ByCanonicalJob =
    (checks others : Checks) (a b : List ℕ) → ((needed : Bool) → checks needed a ≡ others needed b) →
    job_of a ≡ job_of b → (k : Kind) (m : Lent) (cs : List (Call k)) → run_by k checks a m cs ≡ run_by k others b m cs

-- so every list of calls gives the same by a table and by a wider one, on each job that the first does not refuse by 4
abbrev pub ByWiderTable : Type 0
ByWiderTable =
    (narrow wide : ClassTable) → Within narrow wide → (job : List ℕ) →
    ((check_of narrow full_limits false job).number ≡ 4 → ⊥) → (k : Kind) (m : Lent) (cs : List (Call k)) →
    run_by k (check_of wide full_limits) job m cs ≡ run_by k (check_of narrow full_limits) job m cs

-- and a job that was accepted while P records had variables only is accepted, gives what it gave, and nothing of it is
-- shown
pub record AsBefore (job : List ℕ) : Type 0 where
  pub still : job_check false job ≡ accepted
  pub runs : (k : Kind) (m : Lent) (cs : List (Call k)) →
      run_of k job m cs ≡ run_by k (check_of variable_pairs full_limits) job m cs
  pub shown : shown_of job ≡ []

unfoldable pub WiderClasses : Type 0
WiderClasses =
    ByCanonicalJob × ByWiderTable
    × ((job : List ℕ) → check_of variable_pairs full_limits false job ≡ accepted → AsBefore job)
