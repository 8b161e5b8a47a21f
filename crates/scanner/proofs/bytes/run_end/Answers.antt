-- `bytes::run_end`: the library counts the stretch by another name. Assumes nothing.
use Rattle.scanner.proofs.Stretches.{stretch_from}
use Rattle.scanner.proofs.bytes.run_end.Goals as goal

pub returns-clause-end : goal.returns-clause-end
returns-clause-end c = search stretch_from
