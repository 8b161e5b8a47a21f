-- `ropeclover_test_element`: the edition is the one that was asked for. Assumes nothing.

use Rattle.scanner_cases.proofs.ropeclover_test_element.Goals as goal

pub element_at-part-requires : goal.element_at-part-requires
element_at-part-requires c = record { element = rw c.edition_of.ensures.edition c.requires.element }
