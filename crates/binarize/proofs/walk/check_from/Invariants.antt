-- `walk::check_from`. The invariant: no record from the first tried up to the j-th is refused, so the fault is that of
-- the records from j on, and the rules before it are counted. Assumes nothing.
use Rattle.job.specs.Format.{records_of}
use Rattle.long_jobs.proofs.WrittenFault.{Tried}
use Rattle.binarize.proofs.walk.check_from.Given as goal

abbrev pub invariant-loop-j : goal.invariant-loop-j
invariant-loop-j l = Tried (records_of l.records) l.from l.j l.rules
