-- `fresh::free_in`. The invariant: in front are the variables below v that no record names. Assumes nothing.
use Rattle.long_jobs.specs.Dialect.{long_records_lem}
use Rattle.long_jobs.specs.Fresh.{unnamed_below}
use Rattle.long_jobs.specs.Inside.Parts.{InFront}
use Rattle.binarize.proofs.fresh.free_in.Given as goal

abbrev pub invariant-loop-v : goal.invariant-loop-v
invariant-loop-v l = InFront l.free.variables l.free.count (unnamed_below (long_records_lem l.source) l.v)
