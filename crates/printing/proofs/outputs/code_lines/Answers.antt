use Rattle.std.proofs.Common.{ℕ, ◌+◌, ◌*◌, ◌<◌, List, take, get_or, length, arith}
use Rattle.std.proofs.lemmas.List.{get_or-take, length-take}
use Rattle.spelling.specs.Lines.{code_line_lem, lines}
use Rattle.spelling.specs.declared.page.Page.{Page}
use Rattle.spelling.specs.Inside.Placed.{Placed}
use Rattle.spelling.proofs.Placing.{nothing, line_more}
use Rattle.printing.proofs.outputs.code_lines.Goals as goal

-- the code that is read stands in the whole array
own : (codes : List ℕ) (n x : ℕ) {before after : Page} → x < length (take n codes)
    → Placed (code_line_lem x (get_or (take n codes) x 0)) 42 before after
    → Placed (code_line_lem x (get_or codes x 0)) 42 before after
own codes n x l a = let k : x < n = omega (arith, length-take n codes) in rw get_or-take at a

pub loop-x-init : goal.loop-x-init
unfolding lines
loop-x-init c = nothing

pub loop-x-preserved : goal.loop-x-preserved
loop-x-preserved c = line_more _ c.loop-x.x (42 * (c.loop-x.x + 1)) c.loop-x.invariant
    (own _ _ _ c.loop-x-test.true c.code_line.ensures.placed) (omega arith)
