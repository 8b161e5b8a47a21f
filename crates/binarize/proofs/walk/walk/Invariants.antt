-- `walk::walk`. The invariant: the definition's walk over the records from i on, from the conversion that the code's
-- numbers and buffer say, comes to what the whole walk comes to. Assumes nothing.
use Rattle.long_jobs.specs.Dialect.{long_records_lem}
use Rattle.long_jobs.proofs.WalkSteps.{Walking}
use Rattle.binarize.proofs.walk.walk.Given as goal

abbrev pub invariant-loop-i : goal.invariant-loop-i
invariant-loop-i l = Walking (long_records_lem l.source) l.free.variables l.free.count l.i l.s l.written
