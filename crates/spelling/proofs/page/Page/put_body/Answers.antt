-- `Page::put_body`: an empty rule has its word, another its first symbol; a pair rule has its second and the middle
-- state besides. Assumes nothing.
use Rattle.std.proofs.Common.{◌≢◌, get_or, append_assoc}
use native.Mathlib.Omega.{arith}
use borrow.Author.Tests.{eq-eqb, ne_eqb}
use Rattle.spelling.specs.Lines.{number_line_lem}
use Rattle.spelling.specs.Records.{second_output, body_output}
use Rattle.spelling.proofs.Placing.{then, within}
use Rattle.spelling.proofs.page.Page.put_body.Goals as goal

pub returns-in-69 : goal.returns-in-69
unfolding body_output
returns-in-69 c = record { placed = rw (eq-eqb _ 69 c.in-69.is) (within c.put_word.ensures.placed (omega arith)) }

pub returns-in-80 : goal.returns-in-80
unfolding body_output second_output number_line_lem
returns-in-80 c = record {
  placed = rw (c.in-80.is)
      (simp append_assoc
      (then (rw c.from-first.ensures at c.put_number.ensures.placed)
      (then (rw c.from.ensures at c.put_spaced.ensures.placed) (rw c.from-in-80.ensures at c.number_line.ensures.placed))));
}

pub returns-in_default : goal.returns-in_default
unfolding body_output second_output number_line_lem
returns-in_default c = record {
  placed = let e : get_or c.args.bytes.now 3 0 ≢ 69 = omega arith in
      let p : get_or c.args.bytes.now 3 0 ≢ 80 = omega arith in
      rw (ne_eqb _ 69 e, ne_eqb _ 80 p)
      (within (rw c.from-first.ensures at c.number_line-in_default.ensures.placed) (omega arith));
}
