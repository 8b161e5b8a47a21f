-- `rules::element_at`: the piece that begins here is an element, and what stands after it is known. Assumes nothing.
use Rattle.cursor.proofs.AfterLaws.{element_ends, element_read}
use Rattle.cursor.proofs.rules.element_at.Goals as goal

pub after_element-after-requires-clause-fine : goal.after_element-after-requires-clause-fine
after_element-after-requires-clause-fine c = search element_ends

pub returns : goal.returns
returns c = record { read = search element_read }
