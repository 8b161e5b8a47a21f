-- `Page::put_word`. The loop's invariant: the first bytes are written. Assumes nothing.
use lib.ListN.{take}
use Rattle.spelling.specs.Inside.Placed.{Placed}
use Rattle.spelling.proofs.page.Page.put_word.Given as goal

abbrev pub invariant-loop-byte : goal.invariant-loop-byte
invariant-loop-byte l = Placed (take l.byte-index l.word) l.byte-index l.initial.self l.self
