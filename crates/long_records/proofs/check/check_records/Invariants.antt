-- `check::check_records`. The invariant: the records before i are counted and none is refused, so the first fault is
-- that of the records from i on, after those before it. Assumes nothing.
use Rattle.job.proofs.RecordChecks.{Remains}
use Rattle.long_jobs.specs.Check.{long_format}
use Rattle.long_jobs.proofs.FirstWalkSteps.{Counted}
use Rattle.long_records.proofs.check.check_records.Given as goal

abbrev pub invariant-loop-i : goal.invariant-loop-i
invariant-loop-i l = Counted l.records l.i l.seen × Remains long_format l.records l.i
