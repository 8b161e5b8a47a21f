-- `Page::put_number`: the word, then the space and the digits. Assumes nothing.
use mathlib.Core.List.{append_assoc}
use Rattle.spelling.proofs.Placing.{then}
use Rattle.spelling.proofs.page.Page.put_number.Goals as goal

pub returns : goal.returns
returns c = record { placed = simp append_assoc (then c.put_word.ensures.placed c.put_spaced.ensures.placed) }
