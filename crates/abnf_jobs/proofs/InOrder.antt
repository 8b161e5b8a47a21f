-- The job that a call leaves is S and then its rules, which are sorted as they stand. Assumes nothing.
use Rattle.job.proofs.Bytes.{records_of_bytes}
use Rattle.abnf.specs.Reading.{lines_of}
use Rattle.abnf_jobs.specs.Rules.{records_of_lines}
use Rattle.abnf_jobs.specs.Theorems.Written.{WrittenInOrder}
use Rattle.abnf_jobs.proofs.Success.{success}
use Rattle.abnf_jobs.proofs.WrittenRules.{records_sorted, written_start}

pub written_in_order_lem : WrittenInOrder
unfolding records_of_lines
written_in_order_lem e text map job s =
    let lines = lines_of e text in
    rw (
      (success e text map job s).job_is,
      records_of_bytes (records_of_lines lines),
      written_start lines,
      records_sorted lines,
    )
