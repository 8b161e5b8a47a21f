-- `ropeclover_test_scan`: the number of what the scan gives. Assumes nothing.
use Rattle.scanner_cases.proofs.Scanned.{scanned}
use Rattle.scanner_cases.proofs.ropeclover_test_scan.Goals as goal

pub returns : goal.returns
returns c =
    record {
      fault = scanned _ _ _ _ c.number_of.ensures.number c.scan.ensures.fault c.edition_of.ensures.edition;
    }
