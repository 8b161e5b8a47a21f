-- `format::record_at` reads the four bytes of the record. Assumes nothing.
use Rattle.grammar.proofs.Basics.{sym}
use Rattle.job.proofs.Records.{record_of_bytes}
use Rattle.records.proofs.format.record_at.Goals as goal

pub returns : goal.returns
returns c = record { «record» = search (record_of_bytes, sym) }
