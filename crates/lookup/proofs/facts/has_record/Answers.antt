-- `facts::has_record` looks among all records. Assumes nothing.
use Rattle.grammar.proofs.Basics.{le_refl}
use lib.Seq.{take-length}
use Rattle.job.proofs.Records.{records_counted}
use Rattle.lookup.proofs.facts.has_record.Goals as goal

pub is_among-requires : goal.is_among-requires
is_among-requires c = record { within = rw records_counted (le_refl _) }

pub returns : goal.returns
returns c = record { says = rw (← records_counted c.args.job.now, take-length) at c.is_among.ensures.says }
