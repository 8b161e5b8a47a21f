-- `check::count_all`. The invariant: the records before i are counted. Assumes nothing.
use Rattle.long_jobs.specs.Dialect.{long_records_lem}
use Rattle.long_jobs.proofs.FirstWalkSteps.{Counted}
use Rattle.long_records.proofs.check.count_all.Given as goal

abbrev pub invariant-loop-bytes : goal.invariant-loop-bytes
invariant-loop-bytes l = Counted (long_records_lem l.source) l.bytes-index l.seen
