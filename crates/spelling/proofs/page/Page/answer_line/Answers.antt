-- `Page::answer_line`: the word, then the answer that the test decides. Assumes nothing.
use native.Mathlib.Omega.{arith}
use Rattle.spelling.specs.Lines.{answer_line_lem}
use Rattle.spelling.proofs.Placing.{then, within}
use Rattle.spelling.proofs.page.Page.answer_line.Goals as goal
use Rattle.spelling.proofs.page.Page.answer_line.Goals.{then-is, else-is}

pub returns : goal.returns
unfolding answer_line_lem
returns c = record {
  placed = elim c.if-is.branch [
    | then-is w ↦ rw w.if-is.true (then c.put_word.ensures.placed (rw w.put_word-is at c.put_word-2.ensures.placed))
    | else-is w ↦ rw w.if-is.false
        (then c.put_word.ensures.placed (within (rw w.put_word-is at c.put_word-2.ensures.placed) (omega arith)))
  ];
}
